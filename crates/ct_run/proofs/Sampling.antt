-- What a status says of the mode `sample` that it is of.
use Rattle.std.proofs.Common.{◌≡◌, ◌≢◌, ◌⊎◌, ◌+◌, ◌≤◌, false, List, [], ℕ, Option, Some, None, Result, Ok, Err, OnOk, IfErr, append-nil, length, inl, inr, refl, sym, ap, arith}
use Rattle.std.specs.Prelude.{◌↔◌}
use Rattle.std.specs.Io.KnownBytes.{Appends, Keeps}
use Rattle.ct_io.specs.declared.run_fault.RunFault.{RunFault}
use Rattle.ct_io.specs.declared.run_fault.RunFault.TheVariants as fault
use Rattle.ct_io.specs.declared.TheConstants.{MAX_INPUT, MAX_READ}
use Rattle.ct_io.specs.Faults.{Rose}
use Rattle.ct_io.specs.Told.{AppendsProperPrefix, WhereTold, IsAboveLimit}
use Rattle.ct_io.proofs.ToldLemmas.{AppendsPrefix-from_proper}
use Rattle.ct_sample.specs.Summary.{IsSampleOutput}
use Rattle.ct_sample.proofs.Summaries.{some_output}
use Rattle.ct_command_line.specs.declared.mode.Mode.TheVariants.{Sample}
use Rattle.ct_run.specs.declared.status.Status.TheVariants.{Usage, WriteFault, ReadFault, TooLong, Memory}
use Rattle.ct_run.specs.Exit.{summary_status}
use Rattle.ct_run.specs.Mode.{IsRunStatus, WritesOn, WritesPrefixOn, WritesProperPrefixOn}
use Rattle.ct_run.specs.Inside.Ran.{Ran}
use Rattle.ct_run.proofs.Verifying.{kept_none, kept_at}

-- how the mode ends
abbrev pub Ended : Type 0
Ended = Result (Unit {0}) RunFault

-- its summary was written
abbrev pub IsWritten : ℕ → Option (List ℕ) → Option (List ℕ) → Type 0
IsWritten number old new = (output : List ℕ) × IsSampleOutput number output × Appends old new output

-- a proper prefix of it was
abbrev pub IsWrittenInPart : ℕ → Option (List ℕ) → Option (List ℕ) → Type 0
IsWrittenInPart number old new = (output : List ℕ) × IsSampleOutput number output × AppendsProperPrefix old new output

-- nothing is read: the sink failed, or memory ran out
abbrev pub AreFaults : Ended → Type 0
AreFaults r = IfErr r (λ f. (f ≡ fault.Write) ⊎ (f ≡ fault.Memory))

no_run_status : (f : RunFault) → IsRunStatus (summary_status (Err f)) → ⊥
no_run_status fault.Read (inl e) = cc
no_run_status fault.Read (inr e) = cc
no_run_status fault.Write (inl e) = cc
no_run_status fault.Write (inr e) = cc
no_run_status fault.TooLong (inl e) = cc
no_run_status fault.TooLong (inr e) = cc
no_run_status fault.Memory (inl e) = cc
no_run_status fault.Memory (inr e) = cc

fault_of_status : (r : Ended) → summary_status r ≡ WriteFault → r ≡ Err fault.Write
fault_of_status (Ok done) e = absurd cc
fault_of_status (Err fault.Read) e = absurd cc
fault_of_status (Err fault.Write) e = refl
fault_of_status (Err fault.TooLong) e = absurd cc
fault_of_status (Err fault.Memory) e = absurd cc

output : (number : ℕ) (old new : Option (List ℕ)) (r : Ended) → OnOk r (IsWritten number old new) → IsRunStatus (summary_status r)
    → WritesOn (Sample number) (Some []) old new (summary_status r)
output number old new (Ok done) (text, sample, appends) ended = (text, false, (sample, refl), refl, appends)
output number old new (Err f) written ended = absurd (no_run_status f ended)

nothing : (number : ℕ) (old new : Option (List ℕ)) → Keeps old new → WritesPrefixOn (Sample number) (Some []) old new
nothing number old new kept =
    let (text, sample) = some_output number in
    (text, false, (sample, refl), ([], text, refl, kept_none old new kept))

-- the sink holds what it held, or some or all of the summary was written
prefix : (number : ℕ) (old new : Option (List ℕ)) (r : Ended) → OnOk r (IsWritten number old new) → (r ≡ Err fault.Write → IsWrittenInPart number old new)
    → IfErr r (λ f. f ≢ fault.Write → Keeps old new) → WritesPrefixOn (Sample number) (Some []) old new
prefix number old new (Ok done) (text, sample, appends) part kept = (text, false, (sample, refl), (text, [], sym (append-nil text), appends))
prefix number old new (Err fault.Write) written part kept =
    let (text, sample, in_part) = part refl in
    (text, false, (sample, refl), AppendsPrefix-from_proper old new text in_part)
prefix number old new (Err fault.Read) written part kept = nothing number old new (kept (λ e. cc))
prefix number old new (Err fault.TooLong) written part kept = nothing number old new (kept (λ e. cc))
prefix number old new (Err fault.Memory) written part kept = nothing number old new (kept (λ e. cc))

in_part : (number : ℕ) (old new : Option (List ℕ)) (r : Ended) → (r ≡ Err fault.Write → IsWrittenInPart number old new) → summary_status r ≡ WriteFault
    → WritesProperPrefixOn (Sample number) (Some []) old new
in_part number old new r part e =
    let (text, sample, proper) = part (fault_of_status r e) in
    (text, false, (sample, refl), proper)

-- no read fails, and no byte is taken
no_read : (r : Ended) → AreFaults r → (summary_status r ≡ ReadFault) ⊎ (summary_status r ≡ TooLong) → ⊥
no_read (Ok done) faults (inl e) = cc
no_read (Ok done) faults (inr e) = cc
no_read (Err fault.Read) (inl f) e = cc
no_read (Err fault.Read) (inr f) e = cc
no_read (Err fault.Write) faults (inl e) = cc
no_read (Err fault.Write) faults (inr e) = cc
no_read (Err fault.TooLong) (inl f) e = cc
no_read (Err fault.TooLong) (inr f) e = cc
no_read (Err fault.Memory) faults (inl e) = cc
no_read (Err fault.Memory) faults (inr e) = cc

ran_out : (r : Ended) → summary_status r ≡ Memory → r ≡ Err fault.Memory
ran_out (Ok done) e = absurd cc
ran_out (Err fault.Read) e = absurd cc
ran_out (Err fault.Write) e = absurd cc
ran_out (Err fault.TooLong) e = absurd cc
ran_out (Err fault.Memory) e = refl

no_usage : (r : Ended) → summary_status r ≡ Usage → ⊥
no_usage (Ok done) e = cc
no_usage (Err fault.Read) e = cc
no_usage (Err fault.Write) e = cc
no_usage (Err fault.TooLong) e = cc
no_usage (Err fault.Memory) e = cc

-- no byte is taken
pub none_above : (left : Option (List ℕ)) (P : Type 0) → (P → ⊥) → WhereTold left left (λ before after. P ↔ IsAboveLimit before after)
none_above None P never = tt
none_above (Some input) P never = (λ p. absurd (never p), λ above. absurd (omega (arith, above)))

pub none_past : (left : Option (List ℕ)) → WhereTold left left (λ before after. length before ≤ length after + MAX_INPUT + MAX_READ)
none_past None = tt
none_past (Some input) = omega arith

completes : (r : Ended) (writes writes' : ℕ) → AreFaults r → (r ≡ Err fault.Write → Rose writes writes') → ¬ Rose writes writes'
    → IsRunStatus (summary_status r) ⊎ (summary_status r ≡ Memory)
completes (Ok done) writes writes' faults rose none = inl (inl refl)
completes (Err f) writes writes' (inl e) rose none = absurd (none (rose (ap (λ (g : RunFault). Err g) e)))
completes (Err f) writes writes' (inr e) rose none = inr (ap (λ (g : RunFault). summary_status (Err g)) e)

pub sample_ran : (number : ℕ) (r : Ended) (left old new : Option (List ℕ)) (reads writes writes' : ℕ) → OnOk r (IsWritten number old new) → (r ≡ Err fault.Write → IsWrittenInPart number old new)
    → IfErr r (λ f. f ≢ fault.Write → Keeps old new) → AreFaults r → (r ≡ Err fault.Write → Rose writes writes')
    → Ran (Some (Sample number)) (summary_status r) left left old new reads reads writes writes'
sample_ran number r left old new reads writes writes' written part kept faults rose = record {
  run = output number old new r written;
  to_end = λ reading done. absurd cc;
  command = λ done. refl;
  prefix = prefix number old new r written part kept;
  written_in_part = in_part number old new r part;
  after_read_fault = λ e. no_read r faults (inl e);
  after_too_long = λ e. no_read r faults (inr e);
  after_memory = λ e. kept_at old new r fault.Memory kept (ran_out r e) (λ f. cc);
  read_fault = λ e. absurd (no_read r faults (inl e));
  write_fault = λ e. rose (fault_of_status r e);
  too_long = none_above left (summary_status r ≡ TooLong) (λ e. no_read r faults (inr e));
  one_read_past = none_past left;
  no_command = tt;
  usage_only_then = λ e. absurd (no_usage r e);
  complete = λ within read write. completes r writes writes' faults rose write;
}
