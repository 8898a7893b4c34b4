use Rattle.std.proofs.Common.{All, take}
use Rattle.ct_table.specs.Inside.Removing.{IsMarkedIfLost}
use Rattle.ct_table.proofs.left.mark_lost.Given as goal

-- the slots of the lines so far are marked where they are better
abbrev pub invariant-loop-line : goal.invariant-loop-line
invariant-loop-line l = All (IsMarkedIfLost l.kept.bounds l.work) (take l.line-index l.later)
