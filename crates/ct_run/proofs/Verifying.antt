-- What a status says of the mode `verify` that it is of.
use Rattle.std.proofs.Common.{◌≡◌, ◌≢◌, ◌∙◌, Bool, List, [], ℕ, Option, Some, None, Result, Ok, Err, IfOk, OnOk, IfErr, IfSome, append-nil, refl, sym, subst, ap}
use Rattle.std.proofs.KnownBytes.{Keeps-refl}
use Rattle.std.specs.Io.KnownBytes.{Appends, Keeps}
use Rattle.ct_io.specs.declared.run_fault.RunFault.{RunFault}
use Rattle.ct_io.specs.declared.run_fault.RunFault.TheVariants as fault
use Rattle.ct_io.specs.Told.{AppendsProperPrefix}
use Rattle.ct_io.proofs.ToldLemmas.{AppendsPrefix-from_proper}
use Rattle.ct_verify.specs.Inside.Verdict.{verdict_of}
use Rattle.ct_verify.proofs.Documents.{verdict_is}
use Rattle.ct_verify.specs.Verification.{is_no, verdict_line}
use Rattle.ct_command_line.specs.declared.mode.Mode.TheVariants.{Verify}
use Rattle.ct_run.specs.declared.status.Status.TheVariants.{WriteFault}
use Rattle.ct_run.specs.Exit.{result_status}
use Rattle.ct_run.specs.Mode.{IsRunStatus, WritesOutput, WritesPrefix, WritesProperPrefix}
use Rattle.ct_run.specs.Inside.Ran.{Ran}
use Rattle.ct_run.proofs.Statuses.{source_failed, sink_failed, was_long, ran_out, no_run_status, Takes, reading_ran}

-- the verdict on what a source has left, where it tells this
abbrev pub IsVerdict : Option (List ℕ) → Bool → Type 0
IsVerdict left refused = IfSome left (λ input. refused ≡ is_no (verdict_of input))

-- its line was written
abbrev pub IsWritten : Option (List ℕ) → Option (List ℕ) → Option (List ℕ) → Type 0
IsWritten left old new = IfSome left (λ input. Appends old new (verdict_line (verdict_of input)))

-- a proper prefix of it was
abbrev pub IsWrittenInPart : Option (List ℕ) → Option (List ℕ) → Option (List ℕ) → Type 0
IsWrittenInPart left old new = IfSome left (λ input. AppendsProperPrefix old new (verdict_line (verdict_of input)))

output : (left old new : Option (List ℕ)) (r : Result Bool RunFault) → IfOk r (IsVerdict left) → OnOk r (IsWritten left old new) → IsRunStatus (result_status r)
    → WritesOutput Verify left old new (result_status r)
output None old new (Ok refused) is written done = tt
output (Some input) old new (Ok refused) is written done = (verdict_line (verdict_of input), refused, (verdict_of input, verdict_is input, refl, is), refl, written)
output left old new (Err f) is written done = absurd (no_run_status f done)

-- nothing was written
pub kept_none : (old new : Option (List ℕ)) → Keeps old new → Appends old new []
kept_none None new h = tt
kept_none (Some xs) None h = absurd h
kept_none (Some xs) (Some ys) h = h ∙ sym (append-nil xs)

nothing : (input : List ℕ) (old new : Option (List ℕ)) → Keeps old new → WritesPrefix Verify (Some input) old new
nothing input old new h = (verdict_line (verdict_of input), is_no (verdict_of input), (verdict_of input, verdict_is input, refl, refl), ([], verdict_line (verdict_of input), refl, kept_none old new h))

-- the sink holds what it held, or some or all of the line was written
prefix : (left old new : Option (List ℕ)) (r : Result Bool RunFault) → OnOk r (IsWritten left old new) → (r ≡ Err fault.Write → IsWrittenInPart left old new)
    → IfErr r (λ f. f ≢ fault.Write → Keeps old new) → WritesPrefix Verify left old new
prefix None old new r written part kept = tt
prefix (Some input) old new (Ok refused) written part kept = (verdict_line (verdict_of input), is_no (verdict_of input), (verdict_of input, verdict_is input, refl, refl), (verdict_line (verdict_of input), [], sym (append-nil (verdict_line (verdict_of input))), written))
prefix (Some input) old new (Err fault.Write) written part kept = (verdict_line (verdict_of input), is_no (verdict_of input), (verdict_of input, verdict_is input, refl, refl), AppendsPrefix-from_proper old new (verdict_line (verdict_of input)) (part refl))
prefix (Some input) old new (Err fault.Read) written part kept = nothing input old new (kept (λ e. cc))
prefix (Some input) old new (Err fault.TooLong) written part kept = nothing input old new (kept (λ e. cc))
prefix (Some input) old new (Err fault.Memory) written part kept = nothing input old new (kept (λ e. cc))

in_part : (left old new : Option (List ℕ)) (r : Result Bool RunFault) → (r ≡ Err fault.Write → IsWrittenInPart left old new) → result_status r ≡ WriteFault → WritesProperPrefix Verify left old new
in_part None old new r part e = tt
in_part (Some input) old new r part e = (verdict_line (verdict_of input), is_no (verdict_of input), (verdict_of input, verdict_is input, refl, refl), part (sink_failed r e))

-- after another fault than one of the sink this holds what it held
pub kept_at : {X : Type 0} (old new : Option (List ℕ)) (r : Result X RunFault) (f : RunFault) → IfErr r (λ f. f ≢ fault.Write → Keeps old new) → r ≡ Err f → f ≢ fault.Write → Keeps old new
kept_at {X} old new r f h is = subst (λ (q : Result X RunFault). IfErr q (λ f. f ≢ fault.Write → Keeps old new)) is h

-- a sink that is the same keeps what it holds
same_kept : (a b : Option (List ℕ)) → b ≡ a → Keeps a b
same_kept a b same = subst (Keeps a) (sym same) (Keeps-refl a)

pub kept_beside : {K X : Type 0} (holds : K → Option (List ℕ)) (old new : K) (r : Result X RunFault) → IfErr r (λ f. f ≢ fault.Write → new ≡ old) → IfErr r (λ f. f ≢ fault.Write → Keeps (holds old) (holds new))
kept_beside {K} {X} holds old new (Ok refused) h = tt
kept_beside {K} {X} holds old new (Err f) h = λ other. same_kept (holds old) (holds new) (ap holds (h other))

pub verify_ran : (r : Result Bool RunFault) (left now old new : Option (List ℕ)) (faults faults' writes writes' : ℕ) → IfOk r (IsVerdict left) → OnOk r (IsWritten left old new)
    → (r ≡ Err fault.Write → IsWrittenInPart left old new) → IfErr r (λ f. f ≢ fault.Write → Keeps old new) → Takes r left now faults faults' writes writes'
    → Ran (Some Verify) (result_status r) left now old new faults faults' writes writes'
verify_ran r left now old new faults faults' writes writes' is written part kept takes =
    reading_ran Verify r left now old new faults faults' writes writes' refl takes
    (record {
      run = output left old new r is written;
      prefix = prefix left old new r written part kept;
      written_in_part = in_part left old new r part;
      after_read_fault = λ e. kept_at old new r fault.Read kept (source_failed r e) (λ f. cc);
      after_too_long = λ e. kept_at old new r fault.TooLong kept (was_long r e) (λ f. cc);
      after_memory = λ e. kept_at old new r fault.Memory kept (ran_out r e) (λ f. cc);
    })
