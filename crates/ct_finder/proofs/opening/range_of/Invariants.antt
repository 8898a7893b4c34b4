use Rattle.std.proofs.Common.{◌≡◌}
use Rattle.std.specs.Prelude.{filter}
use Rattle.std.specs.List.{range_with_len}
use Rattle.ct_duals.specs.Dual.{is_in_range}
use Rattle.ct_finder.proofs.opening.range_of.Given as goal

-- those of the indices before i
abbrev pub invariant-loop-i : goal.invariant-loop-i
invariant-loop-i l = l.range.items ≡ filter (is_in_range l.entry l.even) (range_with_len 0 l.i)
