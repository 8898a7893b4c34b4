-- What a status says of a session.
use Rattle.std.proofs.Common.{Bool, List, ℕ, Option, Some, None, Result, Ok, Err, IfOk, refl}
use Rattle.ct_io.specs.declared.run_fault.RunFault.{RunFault}
use Rattle.ct_session.specs.Ending.{Ends}
use Rattle.ct_session.specs.Serve.{WritesRun, WritesRunPrefix, WritesRunProperPrefix}
use Rattle.ct_command_line.specs.declared.mode.Mode.TheVariants.{Session}
use Rattle.ct_run.specs.Exit.{result_status}
use Rattle.ct_run.specs.Mode.{IsRunStatus, WritesOutput, WritesPrefix, WritesProperPrefix}
use Rattle.ct_run.specs.Inside.Ran.{Ran}
use Rattle.ct_run.proofs.Statuses.{source_failed, sink_failed, was_long, ran_out, no_run_status, reading_ran}

output : (left old new : Option (List ℕ)) (r : Result Bool RunFault) → IfOk r (WritesRun left old new) → IsRunStatus (result_status r)
    → WritesOutput Session left old new (result_status r)
output None old new (Ok refused) written done = tt
output (Some input) old new (Ok refused) (text, answers, appends) done = (text, refused, answers, refl, appends)
output left old new (Err f) written done = absurd (no_run_status f done)

prefix : (left old new : Option (List ℕ)) → WritesRunPrefix left old new → WritesPrefix Session left old new
prefix None old new h = tt
prefix (Some input) old new h = h

in_part : (left old new : Option (List ℕ)) → WritesRunProperPrefix left old new → WritesProperPrefix Session left old new
in_part None old new h = tt
in_part (Some input) old new h = h

pub session_ran : (r : Result Bool RunFault) (left now old new : Option (List ℕ)) (faults faults' writes writes' : ℕ) → Ends r left now old new faults faults' writes writes'
    → Ran (Some Session) (result_status r) left now old new faults faults' writes writes'
session_ran r left now old new faults faults' writes writes' h =
    reading_ran Session r left now old new faults faults' writes writes' refl
    (record { to_end = h.to_end; read_fault = h.read_fault; write_fault = h.write_fault; too_long = h.too_long; one_read_past = h.one_read_past })
    (record {
      run = output left old new r h.run;
      prefix = prefix left old new h.prefix;
      written_in_part = λ e. in_part left old new (h.written_in_part (sink_failed r e));
      after_read_fault = λ e. h.taken_answered (source_failed r e);
      after_too_long = λ e. h.last_bytes_unanswered (was_long r e);
      after_memory = λ e. h.whole_replies (ran_out r e);
    })
