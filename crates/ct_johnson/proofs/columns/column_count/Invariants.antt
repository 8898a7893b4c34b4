-- No smaller number of words is too many.
use Rattle.std.proofs.Common.{◌≡◌, ℕ, ◌<◌, ◌≤◌, false}
use Rattle.ct_johnson.specs.Bounds.{are_too_many}
use Rattle.ct_johnson.proofs.columns.column_count.Given as goal

abbrev pub invariant-loop-words : goal.invariant-loop-words
invariant-loop-words l = (k : ℕ) → 2 ≤ k → k < l.words → are_too_many l.n l.half l.w k ≡ false
