-- Before j no entry is negative.
use Rattle.std.proofs.Common.{◌≡◌, ℕ, ◌<◌, ◌≤◌, false, get_or}
use Rattle.std.specs.Prelude.{pos, int_lt}
use Rattle.ct_finder.proofs.pivot.entering.Given as goal

abbrev pub invariant-loop-j : goal.invariant-loop-j
invariant-loop-j l = (m : ℕ) → 1 ≤ m → m < l.j → int_lt (get_or l.cost m (pos 0)) (pos 0) ≡ false
