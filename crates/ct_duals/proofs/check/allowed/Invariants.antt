-- What is allowed stands in the pairs that are left.
use Rattle.std.proofs.Common.{◌≡◌, drop}
use Rattle.ct_duals.specs.Dual.{allowed}
use Rattle.ct_duals.proofs.check.allowed.Given as goal

abbrev pub invariant-loop-at : goal.invariant-loop-at
invariant-loop-at l = allowed (drop l.at-index l.y) l.i ≡ allowed l.y l.i
