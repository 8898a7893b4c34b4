-- With what is gathered the upper bounds that are left give the whole; products are small.
use Rattle.std.proofs.Common.{◌≤◌, ◌*◌, ◌^◌, drop}
use Rattle.ct_duals.specs.Bound.{positive, charges}
use Rattle.ct_duals.proofs.Charges.{Gathers}
use Rattle.ct_duals.proofs.accepted.charge.Given as goal

abbrev pub invariant-loop-i : goal.invariant-loop-i
invariant-loop-i l =
    (l.taken ≤ l.i-index)
    × Gathers l.entry (charges (positive l.y) l.uppers) (drop l.i-index l.y) (drop l.taken l.uppers) l.near l.far
    × (l.near ≤ l.i-index * 2 ^ 95)
    × (l.far ≤ 2 ^ 95)
