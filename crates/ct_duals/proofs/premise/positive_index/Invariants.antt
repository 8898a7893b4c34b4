-- What stands at the place stands at a place among those that are left.
use Rattle.std.proofs.Common.{◌≡◌, drop}
use Rattle.std.specs.Prelude.{slice_get}
use Rattle.ct_duals.specs.Bound.{positive}
use Rattle.ct_duals.proofs.premise.positive_index.Given as goal

abbrev pub invariant-loop-i : goal.invariant-loop-i
invariant-loop-i l = slice_get (positive l.y) l.place ≡ slice_get (positive (drop l.i-index l.y)) l.left
