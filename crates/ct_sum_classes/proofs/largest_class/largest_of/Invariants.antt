use Rattle.std.proofs.Common.{◌≡◌, ◌<◌}
use Rattle.std.specs.Prelude.{slice_index}
use Rattle.ct_sum_classes.specs.SumClass.{greatest_below}
use Rattle.ct_sum_classes.proofs.largest_class.largest_of.Given as goal

-- the first of the greatest so far
abbrev pub invariant-loop-r : goal.invariant-loop-r
invariant-loop-r l = (l.largest ≡ greatest_below (slice_index l.row) l.r) × (l.largest < l.n)
