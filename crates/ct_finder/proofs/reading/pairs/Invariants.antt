-- The pairs of the indices so far.
use Rattle.ct_finder.specs.Inside.Numbers.{numbers_of_range}
use Rattle.std.proofs.Common.{◌≡◌, take}
use Rattle.std.specs.Prelude.{pos, filter, int_lt}
use Rattle.ct_finder.specs.Ready.{seen}
use Rattle.ct_finder.proofs.reading.pairs.Given as goal

abbrev pub invariant-loop-j : goal.invariant-loop-j
invariant-loop-j l = l.a.items ≡ filter (λ u. int_lt (pos 0) u.1) (take l.j (numbers_of_range l.range (seen l.tableau)))
