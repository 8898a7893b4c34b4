use Rattle.std.proofs.Common.{◌≡◌, ◌∙◌, ap₂, rules, codes, true}
use Rattle.std.proofs.lemmas.Result.{IfOk-weaker}
use Rattle.clap.specs.Words.{Shape, app_of, new_app, rule_of, with_rule}
use Rattle.clap.specs.Simple.{on_top}
use Rattle.ct_command_line.specs.CommandLine.{command_line, mode_rule, number_rule}
use Rattle.ct_command_line.proofs.reading.command_line.Goals as goal

pub returns : goal.returns
unfolding command_line
returns c =
    let mode_is : rule_of c.action-mode.result ≡ mode_rule = search rules in
    let number_is : rule_of c.action-number.result ≡ number_rule = search rules in
    let bare_is : app_of c.no_binary_name.result ≡ on_top (λ (s : Shape). record s { no_binary_name = true }) (new_app (codes "code_tables")) = search rules in
    let with_mode_is : app_of c.in_ok-arg.field-0 ≡ with_rule (on_top (λ (s : Shape). record s { no_binary_name = true }) (new_app (codes "code_tables"))) mode_rule =
    c.in_ok-arg.ensures.shape (search rules) ∙ ap₂ with_rule bare_is mode_is in
    IfOk-weaker c.arg-2.result _ _ (λ m h. h.shape (search rules) ∙ ap₂ with_rule with_mode_is number_is) c.arg-2.ensures
