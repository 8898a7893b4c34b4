use Rattle.std.proofs.Common.{refl}
use Rattle.ct_laws.proofs.OnLiterals.{evidence_on_literals}
use Rattle.ct_laws.proofs.worked_builds.wrong_entries.Goals as goal

pub returns : goal.returns
unfolding evidence_on_literals
returns c = record {
  n = refl;
  d = refl;
  d_beside_weight = refl;
  d_of_select = refl;
  d_of_no_select = refl;
  w = refl;
  w_of_lengthen = refl;
  operation = refl;
  operation_number = refl;
  operation_capital = refl;
  operation_missing = refl;
}
