use Rattle.std.proofs.Common.{ℕ, ◌+◌, ◌<◌, ◌≤◌}
use Rattle.ct_offers.specs.Inside.Marking.{KeepsMarks, IsTestedAtSum}
use Rattle.ct_offers.proofs.juxtaposition.mark_sums_of_length.Given as goal

-- what was marked still is, and the distances so far were looked at
abbrev pub invariant-loop-d : goal.invariant-loop-d
invariant-loop-d l = KeepsMarks l.fn.work l.work
    × ((d : ℕ) → l.entry.d + 3 ≤ d → d < l.d → IsTestedAtSum l.bounds l.work l.entry l.n d)
