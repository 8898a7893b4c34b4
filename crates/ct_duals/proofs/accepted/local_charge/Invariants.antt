-- With what is gathered the numbers that are left give the whole; products are small.
use Rattle.std.proofs.Common.{◌≡◌, ◌≤◌, ◌+◌, ◌*◌, ◌^◌, drop}
use Rattle.ct_duals.specs.Local.{local_charge}
use Rattle.ct_duals.proofs.accepted.local_charge.Given as goal

abbrev pub invariant-loop-number : goal.invariant-loop-number
invariant-loop-number l =
    (l.taken ≤ l.number-index)
    × (l.sum + local_charge (drop l.number-index l.y) (drop l.taken l.uppers) ≡ local_charge l.y l.uppers)
    × (l.sum ≤ l.number-index * 2 ^ 95)
