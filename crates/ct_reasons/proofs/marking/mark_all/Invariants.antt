use Rattle.std.proofs.Common.{◌≤◌, length, take}
use Rattle.ct_derive.specs.Pruning.{AreMarkedFrom}
use Rattle.ct_reasons.proofs.marking.mark_all.Given as goal

-- the lines that marked lines from the place on need are marked
abbrev pub invariant-loop-place : goal.invariant-loop-place
invariant-loop-place l = (l.place ≤ length l.initial.marks)
    × (AreMarkedFrom (length l.initial.marks) (take (length l.initial.marks) l.table.lines) l.initial.marks
    → AreMarkedFrom l.place (take (length l.initial.marks) l.table.lines) l.marks)

abbrev pub decreases-loop-place : goal.decreases-loop-place
decreases-loop-place l = l.place
