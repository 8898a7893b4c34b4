use Rattle.std.proofs.Common.{sym, ap}
use Rattle.std.specs.Result.{result_map_both}
use Rattle.ct_kind.specs.declared.fault.SubmitFault.{SubmitFault}
use Rattle.ct_files.specs.Checked.{classes_checked}
use Rattle.ct_files.proofs.checked.Checked.of_classes.Goals as goal

pub returns : goal.returns
returns c = ap (result_map_both classes_checked (λ (fault : SubmitFault). fault)) (sym c.in_ok-count.was)
