use Rattle.ct_words.proofs.BoundLemmas.{one_is_lower}
use Rattle.ct_words.proofs.CheckLemmas.{code_size-le}
use Rattle.ct_laws.proofs.math.codes.bounds_of_every_entry.Goals as goal

pub returns : goal.returns
returns c = record {
  lower = one_is_lower;
  upper = λ e words code. code_size-le e.n e.d e.w words code;
}
