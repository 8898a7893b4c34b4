-- No smaller number of words is too many.
use Rattle.std.proofs.Common.{◌≡◌, ℕ, ◌<◌, ◌≤◌, false}
use Rattle.ct_doubly.specs.Doubly.{are_too_many_by_squares}
use Rattle.ct_doubly.proofs.squares.least_too_many.Given as goal

abbrev pub invariant-loop-words : goal.invariant-loop-words
invariant-loop-words l = (k : ℕ) → 2 ≤ k → k < l.words → are_too_many_by_squares l.n1 l.w1 l.n2 l.w2 l.half k ≡ false
