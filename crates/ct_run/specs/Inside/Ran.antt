-- What a run comes to, by the mode that is named, clause by clause.
use Rattle.std.specs.Prelude.{◌≡◌, ◌⊎◌, ◌≤◌, ◌+◌, ◌↔◌, ℕ, List, length, Option, IfSome, IfNone, IsSome, IsNone, Some, true, option_map}
use Rattle.std.specs.Io.KnownBytes.{IsAtEnd}
use Rattle.ct_io.specs.declared.TheConstants.{MAX_INPUT, MAX_READ}
use Rattle.ct_io.specs.Faults.{Rose}
use Rattle.ct_io.specs.Told.{WhereTold, IsAboveLimit, IsWithinLimit}
use Rattle.ct_command_line.specs.declared.mode.Mode.{Mode}
use Rattle.ct_run.specs.declared.status.Status.{Status}
use Rattle.ct_run.specs.declared.status.Status.TheVariants.{Usage, ReadFault, WriteFault, TooLong, Memory}
use Rattle.ct_run.specs.Mode.{reads, input_for, IsRunStatus, WritesOutput, WritesPrefix, WritesProperPrefix, LeftByReadFault, LeftByTooLong, LeftByMemory}
use Rattle.ct_run.specs.Program.{WritesUsage}

-- the mode that is named, or none; the status; what the source has left and the sink holds, before and after, and their faults
pub record Ran (named : Option Mode) (result : Status) (left now old new : Option (List ℕ)) (read read' writes writes' : ℕ) : Type 0 where
  pub run : IfSome named (λ mode. IsRunStatus result → WritesOutput mode left old new result)
  pub to_end : option_map reads named ≡ Some true → IsRunStatus result → IsAtEnd now
  pub command : IsRunStatus result → IsSome named
  pub prefix : IfSome named (λ mode. WritesPrefix mode left old new)
  pub written_in_part : IfSome named (λ mode. result ≡ WriteFault → WritesProperPrefix mode left old new)
  pub after_read_fault : IfSome named (λ mode. result ≡ ReadFault → LeftByReadFault mode left now old new)
  pub after_too_long : IfSome named (λ mode. result ≡ TooLong → LeftByTooLong mode left now old new)
  pub after_memory : IfSome named (λ mode. result ≡ Memory → LeftByMemory mode left now old new)
  pub read_fault : result ≡ ReadFault → Rose read read'
  pub write_fault : result ≡ WriteFault → Rose writes writes'
  pub too_long : WhereTold left now (λ before after. (result ≡ TooLong) ↔ IsAboveLimit before after)
  pub one_read_past : WhereTold left now (λ before after. length before ≤ length after + MAX_INPUT + MAX_READ)
  pub no_command : IfNone named (WritesUsage result old new)
  pub usage_only_then : result ≡ Usage → IsNone named
  pub complete : IfSome named (λ mode. IsWithinLimit (input_for mode left) → ¬ Rose read read' → ¬ Rose writes writes' → IsRunStatus result ⊎ (result ≡ Memory))
