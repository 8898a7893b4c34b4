use Rattle.ct_pieces.proofs.LeftOut.{LeavesOut}
use Rattle.ct_pieces.proofs.along.leave_out.Given as goal

-- what has been looked at is in place
abbrev pub invariant-loop-place : goal.invariant-loop-place
invariant-loop-place g l = LeavesOut l.gone l.initial.items.items l.items.items l.left l.place
