use Rattle.std.proofs.Common.{◌≡◌, ◌≢◌, Bool, true, false, Some, None, refl, sym, ap, ◌∙◌}
use Rattle.std.specs.Prelude.{option_map}
use Rattle.ct_command_line.specs.CommandLine.{mode_of, bytes_of}
use Rattle.ct_run.specs.Mode.{reads}
use Rattle.ct_run.proofs.Statuses.{named_so}
use Rattle.ct_run.proofs.Usage.{usage_ran}
use Rattle.ct_run.proofs.NothingWritten.{want_ran}
use Rattle.ct_run.proofs.dispatch.run_words.Goals as goal

not_reading : (b : Bool) → Some b ≢ Some true → b ≡ false
not_reading true h = absurd (h refl)
not_reading false h = refl

pub returns-in-Ok-Some : goal.returns-in-Ok-Some
returns-in-Ok-Some g c =
    let is : mode_of (bytes_of c.args.words.now) ≡ Some c.in-Ok-Some.mode = sym c.in-Ok-Some.ensures ∙ c.in-Ok-Some.field-0-is in
    record {
      ran = named_so is c.run_mode.ensures.ran;
      unread = λ other. c.run_mode.ensures.unread (not_reading (reads c.in-Ok-Some.mode) (λ e. other (ap (option_map reads) is ∙ e)));
    }

pub returns-in-Ok-None : goal.returns-in-Ok-None
returns-in-Ok-None g c =
    let is : mode_of (bytes_of c.args.words.now) ≡ None = sym c.in-Ok-None.ensures ∙ c.in-Ok-None.field-0-is in
    record { ran = named_so is (usage_ran c.write_usage.result _ _ _ _ _ _ c.write_usage.ensures.written c.write_usage.ensures.failed); unread = λ other. refl }

pub returns-in-Err : goal.returns-in-Err
returns-in-Err g c = record { ran = want_ran (mode_of (bytes_of c.args.words.now)) _ _ _ _; unread = λ other. refl }
