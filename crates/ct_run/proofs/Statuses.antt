-- What a status says of a mode that reads its source.
use Rattle.std.proofs.Common.{◌≡◌, ◌⊎◌, ◌+◌, ◌≤◌, Bool, true, false, List, ℕ, Option, Some, None, Result, Ok, Err, OnOk, length, refl, sym, ap, subst, inl, inr, arith}
use Rattle.std.specs.Prelude.{◌↔◌, if◌then◌else◌, []}
use Rattle.std.specs.Io.KnownBytes.{IsAtEnd}
use Rattle.ct_io.specs.declared.run_fault.RunFault.{RunFault}
use Rattle.ct_io.specs.declared.run_fault.RunFault.TheVariants as fault
use Rattle.ct_io.specs.declared.TheConstants.{MAX_INPUT, MAX_READ}
use Rattle.ct_io.specs.Faults.{Rose}
use Rattle.ct_io.specs.Told.{WhereTold, IsAboveLimit, IsWithinLimit}
use Rattle.ct_command_line.specs.declared.mode.Mode.{Mode}
use Rattle.ct_run.specs.declared.status.Status.{Status}
use Rattle.ct_run.specs.declared.status.Status.TheVariants.{Usage, WriteFault, ReadFault, TooLong, Memory}
use Rattle.ct_run.specs.Exit.{result_status}
use Rattle.ct_run.specs.Mode.{reads, input_for, IsRunStatus, WritesOutput, WritesPrefix, WritesProperPrefix, LeftByReadFault, LeftByTooLong, LeftByMemory}
use Rattle.ct_run.specs.Inside.Ran.{Ran}

pub sink_failed : (r : Result Bool RunFault) → result_status r ≡ WriteFault → r ≡ Err fault.Write
sink_failed (Ok true) e = absurd cc
sink_failed (Ok false) e = absurd cc
sink_failed (Err fault.Read) e = absurd cc
sink_failed (Err fault.Write) e = refl
sink_failed (Err fault.TooLong) e = absurd cc
sink_failed (Err fault.Memory) e = absurd cc

pub source_failed : (r : Result Bool RunFault) → result_status r ≡ ReadFault → r ≡ Err fault.Read
source_failed (Ok true) e = absurd cc
source_failed (Ok false) e = absurd cc
source_failed (Err fault.Read) e = refl
source_failed (Err fault.Write) e = absurd cc
source_failed (Err fault.TooLong) e = absurd cc
source_failed (Err fault.Memory) e = absurd cc

pub was_long : (r : Result Bool RunFault) → result_status r ≡ TooLong → r ≡ Err fault.TooLong
was_long (Ok true) e = absurd cc
was_long (Ok false) e = absurd cc
was_long (Err fault.Read) e = absurd cc
was_long (Err fault.Write) e = absurd cc
was_long (Err fault.TooLong) e = refl
was_long (Err fault.Memory) e = absurd cc

pub ran_out : (r : Result Bool RunFault) → result_status r ≡ Memory → r ≡ Err fault.Memory
ran_out (Ok true) e = absurd cc
ran_out (Ok false) e = absurd cc
ran_out (Err fault.Read) e = absurd cc
ran_out (Err fault.Write) e = absurd cc
ran_out (Err fault.TooLong) e = absurd cc
ran_out (Err fault.Memory) e = refl

no_usage : (r : Result Bool RunFault) → result_status r ≡ Usage → ⊥
no_usage (Ok true) e = cc
no_usage (Ok false) e = cc
no_usage (Err fault.Read) e = cc
no_usage (Err fault.Write) e = cc
no_usage (Err fault.TooLong) e = cc
no_usage (Err fault.Memory) e = cc

pub no_run_status : (f : RunFault) → IsRunStatus (result_status (Err f)) → ⊥
no_run_status fault.Read (inl e) = cc
no_run_status fault.Read (inr e) = cc
no_run_status fault.Write (inl e) = cc
no_run_status fault.Write (inr e) = cc
no_run_status fault.TooLong (inl e) = cc
no_run_status fault.TooLong (inr e) = cc
no_run_status fault.Memory (inl e) = cc
no_run_status fault.Memory (inr e) = cc

-- what the mode says of the bytes that were taken, and when each fault of a device comes
pub record Takes (r : Result Bool RunFault) (left now : Option (List ℕ)) (faults faults' writes writes' : ℕ) : Type 0 where
  pub to_end : OnOk r (IsAtEnd now)
  pub read_fault : r ≡ Err fault.Read → Rose faults faults'
  pub write_fault : r ≡ Err fault.Write → Rose writes writes'
  pub too_long : WhereTold left now (λ before after. (r ≡ Err fault.TooLong) ↔ IsAboveLimit before after)
  pub one_read_past : WhereTold left now (λ before after. length before ≤ length after + MAX_INPUT + MAX_READ)

-- what it wrote
pub record Leaves (mode : Mode) (result : Status) (left now old new : Option (List ℕ)) : Type 0 where
  pub run : IsRunStatus result → WritesOutput mode left old new result
  pub prefix : WritesPrefix mode left old new
  pub written_in_part : result ≡ WriteFault → WritesProperPrefix mode left old new
  pub after_read_fault : result ≡ ReadFault → LeftByReadFault mode left now old new
  pub after_too_long : result ≡ TooLong → LeftByTooLong mode left now old new
  pub after_memory : result ≡ Memory → LeftByMemory mode left now old new

ended : (r : Result Bool RunFault) (now : Option (List ℕ)) → OnOk r (IsAtEnd now) → IsRunStatus (result_status r) → IsAtEnd now
ended (Ok refused) now at done = at
ended (Err f) now at done = absurd (no_run_status f done)

long_told : (r : Result Bool RunFault) (left now : Option (List ℕ)) → WhereTold left now (λ before after. (r ≡ Err fault.TooLong) ↔ IsAboveLimit before after)
    → WhereTold left now (λ before after. (result_status r ≡ TooLong) ↔ IsAboveLimit before after)
long_told r None now told = tt
long_told r (Some before) None told = told
long_told r (Some before) (Some after) told = (λ e. told.0 (was_long r e), λ above. is_long r (told.1 above)) where
  is_long : (r : Result Bool RunFault) → r ≡ Err fault.TooLong → result_status r ≡ TooLong
  is_long r e = ap result_status e

not_above : (left now : Option (List ℕ)) (P : Type 0) → WhereTold left now (λ before after. P ↔ IsAboveLimit before after) → IsWithinLimit left → P → ⊥
not_above None now P told within p = within
not_above (Some before) None P told within p = told
not_above (Some before) (Some after) P told within p =
    let above = told.0 p in
    omega (arith, above, within)

completes : (r : Result Bool RunFault) (left now : Option (List ℕ)) (faults faults' writes writes' : ℕ) → Takes r left now faults faults' writes writes'
    → IsWithinLimit left → ¬ Rose faults faults' → ¬ Rose writes writes' → IsRunStatus (result_status r) ⊎ (result_status r ≡ Memory)
completes (Ok false) left now faults faults' writes writes' h within read write = inl (inl refl)
completes (Ok true) left now faults faults' writes writes' h within read write = inl (inr refl)
completes (Err fault.Read) left now faults faults' writes writes' h within read write = absurd (read (h.read_fault refl))
completes (Err fault.Write) left now faults faults' writes writes' h within read write = absurd (write (h.write_fault refl))
completes (Err fault.TooLong) left now faults faults' writes writes' h within read write = absurd (not_above left now _ h.too_long within refl)
completes (Err fault.Memory) left now faults faults' writes writes' h within read write = inr refl

input_of_reading : (mode : Mode) (left : Option (List ℕ)) → reads mode ≡ true → input_for mode left ≡ left
input_of_reading mode left is = ap (λ (b : Bool). if b then left else Some []) is

-- so much is what a run of the mode comes to
pub reading_ran : (mode : Mode) (r : Result Bool RunFault) (left now old new : Option (List ℕ)) (faults faults' writes writes' : ℕ) → reads mode ≡ true
    → Takes r left now faults faults' writes writes' → Leaves mode (result_status r) left now old new
    → Ran (Some mode) (result_status r) left now old new faults faults' writes writes'
reading_ran mode r left now old new faults faults' writes writes' is takes leaves = record {
  run = leaves.run;
  to_end = λ reading done. ended r now takes.to_end done;
  command = λ done. refl;
  prefix = leaves.prefix;
  written_in_part = leaves.written_in_part;
  after_read_fault = leaves.after_read_fault;
  after_too_long = leaves.after_too_long;
  after_memory = leaves.after_memory;
  read_fault = λ e. takes.read_fault (source_failed r e);
  write_fault = λ e. takes.write_fault (sink_failed r e);
  too_long = long_told r left now takes.too_long;
  one_read_past = takes.one_read_past;
  no_command = tt;
  usage_only_then = λ e. absurd (no_usage r e);
  complete = λ within read write.
      completes r left now faults faults' writes writes' takes (subst IsWithinLimit (input_of_reading mode left is) within) read write;
}

-- what is named, said otherwise
pub named_so : {named other : Option Mode} {result : Status} {left now old new : Option (List ℕ)} {faults faults' writes writes' : ℕ} → named ≡ other
    → Ran other result left now old new faults faults' writes writes' → Ran named result left now old new faults faults' writes writes'
named_so {result = result} {left = left} {now = now} {old = old} {new = new} {faults = faults} {faults' = faults'} {writes = writes} {writes' = writes'} is =
    subst (λ (m : Option Mode). Ran m result left now old new faults faults' writes writes') (sym is)
