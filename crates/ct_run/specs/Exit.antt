-- Statuses: what they are of the run of a mode, and the numbers with which the program ends.
use Rattle.std.specs.Prelude.{ℕ, Bool, true, false, List, Option, Some, None, Result, Ok, Err, codes}
use Rattle.ct_io.specs.declared.run_fault.RunFault.{RunFault}
use Rattle.ct_io.specs.declared.run_fault.RunFault.TheVariants as run_fault
use Rattle.ct_run.specs.Mode.{status_of}
use Rattle.ct_run.specs.declared.status.Status.{Status}
use Rattle.ct_run.specs.declared.status.Status.TheVariants.{Done, Refused, Usage, ReadFault, WriteFault, TooLong, Memory}

-- the number of a status
abbrev pub status_number : Status → ℕ
status_number Done = 0
status_number Refused = 1
status_number Usage = 2
status_number ReadFault = 3
status_number WriteFault = 4
status_number TooLong = 5
status_number Memory = 6

-- whether a device failed, or memory ran out
abbrev pub has_failed : Status → Bool
has_failed Done = false
has_failed Refused = false
has_failed Usage = false
has_failed ReadFault = true
has_failed WriteFault = true
has_failed TooLong = false
has_failed Memory = true

-- what is said of a run with the status, where it is broken off
abbrev pub status_reason : Status → Option (List ℕ)
status_reason Done = None
status_reason Refused = None
status_reason Usage = None
status_reason ReadFault = Some (codes "a read failed")
status_reason WriteFault = Some (codes "a write failed")
status_reason TooLong = Some (codes "the input is longer than 67108864 bytes")
status_reason Memory = Some (codes "out of memory")

-- the status of a run that is broken off
abbrev pub fault_status : RunFault → Status
fault_status run_fault.Read = ReadFault
fault_status run_fault.Write = WriteFault
fault_status run_fault.TooLong = TooLong
fault_status run_fault.Memory = Memory

-- the status of a mode
abbrev pub result_status : Result Bool RunFault → Status
result_status (Ok refused) = status_of refused
result_status (Err reason) = fault_status reason

-- the status of a mode in which nothing is refused
abbrev pub summary_status : Result (Unit {0}) RunFault → Status
summary_status (Ok done) = status_of false
summary_status (Err reason) = fault_status reason
