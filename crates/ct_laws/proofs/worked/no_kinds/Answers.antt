use Rattle.std.proofs.Common.{refl}
use Rattle.ct_laws.proofs.OnLiterals.{evidence_on_literals}
use Rattle.ct_laws.proofs.worked.no_kinds.Goals as goal

pub returns : goal.returns
unfolding evidence_on_literals
returns c = record {
  empty = refl;
  missing = refl;
  other = refl;
  no_text = refl;
}
