use Rattle.std.proofs.Common.{ℕ, ◌+◌, ◌<◌, ◌≤◌}
use Rattle.ct_offers.specs.Inside.Marking.{KeepsMarks, AreTestedAtLength}
use Rattle.ct_offers.proofs.juxtaposition.mark_juxtaposition.Given as goal

-- what was marked still is, and the lengths so far were looked at
abbrev pub invariant-loop-n : goal.invariant-loop-n
invariant-loop-n l = KeepsMarks l.fn.work l.work
    × ((n : ℕ) → l.entry.n + 3 ≤ n → n < l.n → AreTestedAtLength l.bounds l.work l.entry n)
