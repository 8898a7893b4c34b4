use Rattle.std.proofs.Common.{refl}
use Rattle.ct_laws.proofs.OnLiterals.{evidence_on_literals}
use Rattle.ct_laws.proofs.worked.cosets.Goals as goal

pub returns : goal.returns
unfolding evidence_on_literals
returns c = record {
  read = refl;
  no_basis = refl;
  n = refl;
  d = refl;
  basis = refl;
  representatives = refl;
  missing = refl;
  weight = refl;
  words = refl;
  basis_text = refl;
  text = refl;
  none = refl;
}
