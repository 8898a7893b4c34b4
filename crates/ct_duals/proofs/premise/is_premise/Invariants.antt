-- It is a premise where it is one by the indices that are left.
use Rattle.std.proofs.Common.{◌↔◌, Contains, drop}
use Rattle.ct_duals.proofs.Premises.{premises}
use Rattle.ct_duals.proofs.premise.is_premise.Given as goal

abbrev pub invariant-loop-i : goal.invariant-loop-i
invariant-loop-i l = Contains (premises l.entry l.y) l.other ↔ Contains (premises l.entry (drop l.i-index l.y)) l.other
