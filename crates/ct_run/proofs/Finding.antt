-- What a status says of the mode `find` that it is of.
use Rattle.std.proofs.Common.{◌≡◌, ◌≢◌, Bool, List, [], ℕ, Option, Some, None, Result, Ok, Err, IfOk, IfErr, append-nil, refl, sym}
use Rattle.std.specs.Io.KnownBytes.{Keeps}
use Rattle.ct_io.specs.declared.run_fault.RunFault.{RunFault}
use Rattle.ct_io.specs.declared.run_fault.RunFault.TheVariants as fault
use Rattle.ct_io.proofs.ToldLemmas.{AppendsPrefix-from_proper}
use Rattle.ct_find.specs.Reply.{Writes, WritesInPart}
use Rattle.ct_find.proofs.Existence.{found_exists}
use Rattle.ct_command_line.specs.declared.mode.Mode.TheVariants.{Find}
use Rattle.ct_run.specs.declared.status.Status.TheVariants.{WriteFault}
use Rattle.ct_run.specs.Exit.{result_status}
use Rattle.ct_run.specs.Mode.{IsRunStatus, WritesOutput, WritesPrefix, WritesProperPrefix}
use Rattle.ct_run.specs.Inside.Ran.{Ran}
use Rattle.ct_run.proofs.Statuses.{source_failed, sink_failed, was_long, ran_out, no_run_status, Takes, reading_ran}
use Rattle.ct_run.proofs.Verifying.{kept_none, kept_at}

output : (left old new : Option (List ℕ)) (r : Result Bool RunFault) → IfOk r (λ refused. Writes left old new refused) → IsRunStatus (result_status r)
    → WritesOutput Find left old new (result_status r)
output None old new (Ok refused) written done = tt
output (Some input) old new (Ok refused) (text, found, appends) done = (text, refused, found, refl, appends)
output left old new (Err f) written done = absurd (no_run_status f done)

nothing : (input : List ℕ) (old new : Option (List ℕ)) → Keeps old new → WritesPrefix Find (Some input) old new
nothing input old new kept =
    let (text, refused, found) = found_exists input in
    (text, refused, found, ([], text, refl, kept_none old new kept))

-- the sink holds what it held, or some or all of the replies were written
prefix : (left old new : Option (List ℕ)) (r : Result Bool RunFault) → IfOk r (λ refused. Writes left old new refused) → (r ≡ Err fault.Write → WritesInPart left old new)
    → IfErr r (λ f. f ≢ fault.Write → Keeps old new) → WritesPrefix Find left old new
prefix None old new r written part kept = tt
prefix (Some input) old new (Ok refused) (text, found, appends) part kept = (text, refused, found, (text, [], sym (append-nil text), appends))
prefix (Some input) old new (Err fault.Write) written part kept =
    let (text, refused, found, in_part) = part refl in
    (text, refused, found, AppendsPrefix-from_proper old new text in_part)
prefix (Some input) old new (Err fault.Read) written part kept = nothing input old new (kept (λ e. cc))
prefix (Some input) old new (Err fault.TooLong) written part kept = nothing input old new (kept (λ e. cc))
prefix (Some input) old new (Err fault.Memory) written part kept = nothing input old new (kept (λ e. cc))

in_part : (left old new : Option (List ℕ)) (r : Result Bool RunFault) → (r ≡ Err fault.Write → WritesInPart left old new) → result_status r ≡ WriteFault
    → WritesProperPrefix Find left old new
in_part None old new r part e = tt
in_part (Some input) old new r part e = part (sink_failed r e)

pub find_ran : (r : Result Bool RunFault) (left now old new : Option (List ℕ)) (faults faults' writes writes' : ℕ) → IfOk r (λ refused. Writes left old new refused)
    → (r ≡ Err fault.Write → WritesInPart left old new) → IfErr r (λ f. f ≢ fault.Write → Keeps old new) → Takes r left now faults faults' writes writes'
    → Ran (Some Find) (result_status r) left now old new faults faults' writes writes'
find_ran r left now old new faults faults' writes writes' written part kept takes =
    reading_ran Find r left now old new faults faults' writes writes' refl takes
    (record {
      run = output left old new r written;
      prefix = prefix left old new r written part kept;
      written_in_part = in_part left old new r part;
      after_read_fault = λ e. kept_at old new r fault.Read kept (source_failed r e) (λ f. cc);
      after_too_long = λ e. kept_at old new r fault.TooLong kept (was_long r e) (λ f. cc);
      after_memory = λ e. kept_at old new r fault.Memory kept (ran_out r e) (λ f. cc);
    })
