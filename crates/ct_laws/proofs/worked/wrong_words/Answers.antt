use Rattle.std.proofs.Common.{refl}
use Rattle.ct_laws.proofs.OnLiterals.{evidence_on_literals}
use Rattle.ct_laws.proofs.worked.wrong_words.Goals as goal

pub returns : goal.returns
unfolding evidence_on_literals
returns c = record {
  basis = refl;
  table = refl;
  length = refl;
  letter = refl;
  none = refl;
  one = refl;
}
