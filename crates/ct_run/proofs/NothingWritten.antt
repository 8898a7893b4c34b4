-- Where memory runs out before a mode begins, nothing is read or written.
use Rattle.std.proofs.Common.{◌≡◌, ◌≢◌, ℕ, false, List, [], Option, Some, None, Err, inl, inr, refl}
use Rattle.std.proofs.KnownBytes.{Appends-nil, Keeps-refl}
use Rattle.ct_verify.specs.Inside.Verdict.{verdict_of}
use Rattle.ct_verify.proofs.Documents.{verdict_is}
use Rattle.ct_verify.specs.Verification.{is_no, verdict_line}
use Rattle.ct_find.proofs.Existence.{found_exists}
use Rattle.ct_sample.proofs.Summaries.{some_output}
use Rattle.ct_session.specs.Ending.{Ends}
use Rattle.ct_io.specs.declared.run_fault.RunFault.TheVariants as fault
use Rattle.ct_session.proofs.Endings.{ends_at_once}
use Rattle.ct_command_line.specs.declared.mode.Mode.{Mode}
use Rattle.ct_command_line.specs.declared.mode.Mode.TheVariants.{Session, Verify, Find, Sample}
use Rattle.ct_run.specs.declared.status.Status.TheVariants.{TooLong, Memory}
use Rattle.ct_run.specs.Mode.{IsRunStatus, WritesPrefix, LeftByMemory}
use Rattle.ct_run.specs.Program.{usage_line}
use Rattle.ct_run.specs.Inside.Ran.{Ran}
use Rattle.ct_run.proofs.Sampling.{none_above, none_past}

at_once : (left held : Option (List ℕ)) → Ends (Err fault.Memory) left left held held 0 0 0 0
at_once left held = ends_at_once left held 0 0

nothing_is_prefix : (mode : Mode) (left held : Option (List ℕ)) → WritesPrefix mode left held held
nothing_is_prefix Session None held = tt
nothing_is_prefix Session (Some input) held = (at_once (Some input) held).prefix
nothing_is_prefix Verify None held = tt
nothing_is_prefix Find None held = tt
nothing_is_prefix Find (Some input) held =
    let (output, refused, found) = found_exists input in
    (output, refused, found, ([], output, refl, Appends-nil held))
nothing_is_prefix Verify (Some input) held = (verdict_line (verdict_of input), is_no (verdict_of input), (verdict_of input, verdict_is input, refl, refl), ([], verdict_line (verdict_of input), refl, Appends-nil held))
nothing_is_prefix (Sample number) left held =
    let (output, sample) = some_output number in
    (output, false, (sample, refl), ([], output, refl, Appends-nil held))

nothing_at_want : (mode : Mode) (left held : Option (List ℕ)) → LeftByMemory mode left left held held
nothing_at_want Session left held = (at_once left held).whole_replies refl
nothing_at_want Verify left held = Keeps-refl held
nothing_at_want Find left held = Keeps-refl held
nothing_at_want (Sample number) left held = Keeps-refl held

no_run_status : IsRunStatus Memory → ⊥
no_run_status (inl e) = cc
no_run_status (inr e) = cc

a_line : usage_line ≢ []
a_line = λ e. absurd cc

-- where memory runs out at once, whatever is named
pub want_ran : (named : Option Mode) (left held : Option (List ℕ)) (reads writes : ℕ) → Ran named Memory left left held held reads reads writes writes
want_ran None left held reads writes = record {
  run = tt;
  to_end = λ reading done. absurd (no_run_status done);
  command = λ done. absurd (no_run_status done);
  prefix = tt;
  written_in_part = tt;
  after_read_fault = tt;
  after_too_long = tt;
  after_memory = tt;
  read_fault = λ e. absurd cc;
  write_fault = λ e. absurd cc;
  too_long = none_above left (Memory ≡ TooLong) (λ e. cc);
  one_read_past = none_past left;
  no_command = ([], usage_line, refl, a_line, Appends-nil held);
  usage_only_then = λ e. absurd cc;
  complete = tt;
}
want_ran (Some mode) left held reads writes = record {
  run = λ done. absurd (no_run_status done);
  to_end = λ reading done. absurd (no_run_status done);
  command = λ done. absurd (no_run_status done);
  prefix = nothing_is_prefix mode left held;
  written_in_part = λ e. absurd cc;
  after_read_fault = λ e. absurd cc;
  after_too_long = λ e. absurd cc;
  after_memory = λ e. nothing_at_want mode left held;
  read_fault = λ e. absurd cc;
  write_fault = λ e. absurd cc;
  too_long = none_above left (Memory ≡ TooLong) (λ e. cc);
  one_read_past = none_past left;
  no_command = tt;
  usage_only_then = λ e. absurd cc;
  complete = λ within read write. inr refl;
}
