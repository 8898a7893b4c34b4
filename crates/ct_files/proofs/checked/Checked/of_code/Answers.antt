use Rattle.std.proofs.Common.{Result, Ok, Some, None, sym, ap, ◌∙◌}
use Rattle.std.specs.Result.{result_map_both}
use Rattle.ct_kind.specs.declared.fault.SubmitFault.{SubmitFault}
use Rattle.ct_rule_parts.specs.declared.support.Support.{Support}
use Rattle.ct_files.specs.Checked.{code_checked}
use Rattle.ct_files.specs.declared.checked.Checked.{Checked}
use Rattle.ct_files.proofs.checked.Checked.of_code.Goals as goal

pub returns : goal.returns
returns c =
    let told : Support → Result Checked SubmitFault = λ s. Ok (record { size = Some c.in_ok-size.size; kept = None; support = s }) in
    ap told c.support_from.ensures ∙ ap (result_map_both (code_checked c.args.entry) (λ (fault : SubmitFault). fault)) (sym c.in_ok-size.was)
