-- The bound is true of every doubly constant weight code, and a bound of the table.
use Rattle.std.proofs.Common.{◌≡◌, ℕ, ◌+◌, ◌%◌, ◌≤◌}
use Rattle.ct_words.specs.declared.limits.TheConstants.{MAX_N, MAX_BOUND}
use Rattle.ct_words.specs.Doubly.{IsTrueDoublyUpper}
use Rattle.ct_doubly.specs.Doubly.{doubly}
use Rattle.ct_doubly.proofs.Words.{bound_from_halves}
use Rattle.ct_doubly.proofs.RoundBounds.{doubly_after-sound, one-le-doubly_after, doubly_after-le}

pub doubly-true : (n1 w1 n2 w2 d : ℕ) → w1 ≤ n1 → w2 ≤ n2 → n1 + n2 ≤ MAX_N → 1 ≤ d → d % 2 ≡ 0
    → IsTrueDoublyUpper n1 w1 n2 w2 d (doubly n1 w1 n2 w2 d)
doubly-true n1 w1 n2 w2 d first last short some even =
    bound_from_halves n1 w1 n2 w2 d (doubly n1 w1 n2 w2 d) (doubly_after-sound 3 n1 w1 n2 w2 d first last short some even)

pub one-le-doubly : (n1 w1 n2 w2 d : ℕ) → w1 ≤ n1 → w2 ≤ n2 → 1 ≤ doubly n1 w1 n2 w2 d
one-le-doubly n1 w1 n2 w2 d first last = one-le-doubly_after 3 n1 w1 n2 w2 d first last

pub doubly-le : (n1 w1 n2 w2 d : ℕ) → doubly n1 w1 n2 w2 d ≤ MAX_BOUND
doubly-le n1 w1 n2 w2 d = doubly_after-le 3 n1 w1 n2 w2 d
