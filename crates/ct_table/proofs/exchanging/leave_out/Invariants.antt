use Rattle.ct_rules.specs.Removal.{marked}
use Rattle.ct_table.proofs.LeftOut.{LeavesOut}
use Rattle.ct_table.proofs.exchanging.leave_out.Given as goal

-- what has been looked at is in place
abbrev pub invariant-loop-place : goal.invariant-loop-place
invariant-loop-place l = LeavesOut (marked l.gone) l.initial.supports.items l.supports.items l.left l.place
