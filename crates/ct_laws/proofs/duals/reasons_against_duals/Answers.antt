use Rattle.ct_laws.proofs.DualReasons.{dual-reasons, odd-reasons, local-reasons}
use Rattle.ct_laws.proofs.duals.reasons_against_duals.Goals as goal

pub returns : goal.returns
returns c = record {
  dual = λ known text d reason. let says = dual-reasons known text d in (says.told reason, says.tells reason);
  odd = λ known text d m reason. let says = odd-reasons known text d m in (says.told reason, says.tells reason);
  local = λ known text d reason. let says = local-reasons known text d in (says.told reason, says.tells reason);
}
