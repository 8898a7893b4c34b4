use Rattle.std.proofs.Common.{◌≡◌, ◌++◌, map}
use Rattle.std.specs.List.{range_with_len}
use Rattle.ct_finder.proofs.OpeningLemmas.{unit}
use Rattle.ct_finder.proofs.opening.push_unit.Given as goal

-- those of the s's so far
abbrev pub invariant-loop-before : goal.invariant-loop-before
invariant-loop-before l = l.entries.items ≡ l.fn.entries.items ++ map (unit l.k) (range_with_len 1 l.before)
