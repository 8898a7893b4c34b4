use Rattle.std.proofs.Common.{◌+◌, ◌-◌, ◌≤◌}
use Rattle.ct_kept.specs.Inside.Started.{IsStarted}
use Rattle.ct_kept.proofs.kept.Kept.put_distances.Given as goal

-- the slots with smaller numbers have their ground lines
abbrev pub invariant-loop-d : goal.invariant-loop-d
invariant-loop-d l = (3 ≤ l.d) × IsStarted (l.first + (l.d - 3)) l.self
