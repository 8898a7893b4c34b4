use Rattle.std.proofs.Common.{◌+◌, ◌-◌, ◌*◌, ◌≤◌}
use Rattle.ct_slots.specs.Number.{side_size, side_number, entries_to}
use Rattle.ct_kept.specs.Inside.Started.{IsStarted}
use Rattle.ct_kept.proofs.kept.Kept.start_side.Given as goal

-- the slots of the side with smaller lengths have their ground lines
abbrev pub invariant-loop-n : goal.invariant-loop-n
invariant-loop-n l = (1 ≤ l.n) × IsStarted (side_number l.side * side_size + entries_to (l.n - 1)) l.self
