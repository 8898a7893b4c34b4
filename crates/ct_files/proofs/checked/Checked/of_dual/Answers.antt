use Rattle.std.proofs.Common.{sym, ap}
use Rattle.std.specs.Result.{result_map_both}
use Rattle.ct_kind.specs.declared.fault.SubmitFault.{SubmitFault}
use Rattle.ct_files.specs.Checked.{dual_checked}
use Rattle.ct_files.proofs.checked.Checked.of_dual.Goals as goal

pub returns : goal.returns
returns c = ap (result_map_both dual_checked (λ (fault : SubmitFault). fault)) (sym c.in_ok-support.was)
