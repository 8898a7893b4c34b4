use Rattle.std.proofs.Common.{refl}
use Rattle.ct_laws.proofs.OnLiterals.{evidence_on_literals}
use Rattle.ct_laws.proofs.worked.weights.Goals as goal

pub returns : goal.returns
unfolding evidence_on_literals
returns c = record {
  read = refl;
  zero = refl;
  odd = refl;
  odd_beside_text = refl;
  text = refl;
  above = refl;
  below = refl;
}
