use Rattle.std.proofs.Common.{◌∙◌, sym, ap₂}
use Rattle.std.proofs.lemmas.Result.{IfOk-weaker}
use Rattle.clap.specs.Words.{app_of}
use Rattle.ct_command_line.specs.CommandLine.{mode_from, bytes_of}
use Rattle.ct_command_line.proofs.ModeLemmas.{refused, taken}
use Rattle.ct_command_line.proofs.reading.named_mode.Goals as goal

pub returns-in-Err : goal.returns-in-Err
returns-in-Err c =
    let words = bytes_of c.args.words.now in
    IfOk-weaker c.no_mode.result _ _
    (λ mode h. h.0 ∙ sym (refused (app_of c.in_ok-command_line.field-0) words c.in-Err.e c.in_ok-command_line.ensures c.in-Err.ensures.kinds h.1))
    c.no_mode.ensures

pub returns-in-Ok : goal.returns-in-Ok
returns-in-Ok c =
    let words = bytes_of c.args.words.now in
    c.mode_from.ensures ∙ ap₂ mode_from c.get_str.ensures c.get_str-in-Ok.ensures
    ∙ taken (app_of c.in_ok-command_line.field-0) words c.in-Ok.matches c.in_ok-command_line.ensures c.in-Ok.ensures.kinds c.in-Ok.ensures.matches
