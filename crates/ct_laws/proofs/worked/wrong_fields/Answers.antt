use Rattle.std.proofs.Common.{refl}
use Rattle.ct_laws.proofs.OnLiterals.{evidence_on_literals}
use Rattle.ct_laws.proofs.worked.wrong_fields.Goals as goal

pub returns : goal.returns
unfolding evidence_on_literals
returns c = record {
  n_missing = refl;
  n_text = refl;
  n_above = refl;
  d_missing = refl;
  d_below = refl;
  words_missing = refl;
  words_number = refl;
}
