use Rattle.std.proofs.Common.{ap, ◌∙◌}
use Rattle.ct_command_line.specs.CommandLine.{mode_of}
use Rattle.ct_command_line.proofs.ModeLemmas.{session_named}
use Rattle.ct_run.proofs.Truths.{run_is_true}
use Rattle.ct_verify.specs.Verification.{IsTrueVerdict}
use Rattle.ct_find.specs.Truth.{AreTrueReplies}
use Rattle.ct_sample.specs.Truth.{AreTrueSums}
use Rattle.ct_session.specs.Truth.{IsTrueAnswer, AreAnswers}
use Rattle.ct_session.specs.TrueLines.{IsTrueReason}
use Rattle.ct_command_line.specs.declared.mode.Mode.TheVariants.{Session, Verify, Find, Sample}
use Rattle.ct_run.proofs.dispatch.run.Goals as goal

pub returns : goal.returns
returns g c =
    let ran = c.run_words.ensures.ran in
    record {
      run = ran.run;
      to_end = ran.to_end;
      command = ran.command;
      true_bounds = λ alone. run_is_true (AreAnswers IsTrueAnswer) Session _ _ _ _ _ (λ i o t. t.0) ran.run (ap mode_of alone ∙ session_named);
      true_lines = run_is_true (AreAnswers IsTrueReason) Session _ _ _ _ _ (λ i o t. t.1) ran.run;
      true_claims = run_is_true IsTrueVerdict Verify _ _ _ _ _ (λ i o t. t) ran.run;
      true_duals = run_is_true AreTrueReplies Find _ _ _ _ _ (λ i o t. t) ran.run;
      true_sums = λ number. run_is_true (λ i o. AreTrueSums o) (Sample number) _ _ _ _ _ (λ i o t. t) ran.run;
      prefix = ran.prefix;
      written_in_part = ran.written_in_part;
      after_read_fault = ran.after_read_fault;
      after_too_long = ran.after_too_long;
      after_memory = ran.after_memory;
      read_fault = ran.read_fault;
      write_fault = ran.write_fault;
      too_long = ran.too_long;
      one_read_past = ran.one_read_past;
      no_command = ran.no_command;
      usage_only_then = ran.usage_only_then;
      unread = c.run_words.ensures.unread;
      complete = ran.complete;
    }
