use Rattle.ct_table.specs.Closing.{IsPending, HasMoreLines}
use Rattle.ct_kept.specs.Kept.{IsKept, Grew}
use Rattle.ct_table.specs.Inside.Turn.{potential}
use Rattle.ct_table.proofs.closing.run.Given as goal

-- what holds each time that a slot is taken
abbrev pub invariant-loop-side : goal.invariant-loop-side
invariant-loop-side l = IsKept l.supports l.kept × Grew l.fn.kept l.kept × IsPending l.supports l.kept.bounds l.work
    × HasMoreLines l.fn.kept l.kept

abbrev pub decreases-loop-side : goal.decreases-loop-side
decreases-loop-side l = potential l.kept.bounds l.work
