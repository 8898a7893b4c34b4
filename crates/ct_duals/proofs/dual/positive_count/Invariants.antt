-- With those that are left the count makes up all.
use Rattle.std.proofs.Common.{◌≡◌, ◌≤◌, ◌+◌, length, drop}
use Rattle.ct_duals.specs.Bound.{positive}
use Rattle.ct_duals.proofs.dual.positive_count.Given as goal

abbrev pub invariant-loop-number : goal.invariant-loop-number
invariant-loop-number l =
    (l.count + length (positive (drop l.number-index l.y)) ≡ length (positive l.y)) × (l.count ≤ l.number-index)
