-- What holds of the numbers of a range.
use Rattle.std.proofs.Common.{ℕ, zero, suc, ◌+◌, ◌<◌, ◌≤◌, All, arith}
use Rattle.std.specs.List.{range_with_len}
use Rattle.std.proofs.lemmas.List.Elements.{All-nil, All-cons}

-- what holds of each number of a range holds of the range
pub All-range : (P : ℕ → Type 0) (low count : ℕ) → ((k : ℕ) → low ≤ k → k < low + count → P k) → All P (range_with_len low count)
All-range P low zero each = All-nil P
All-range P low (suc count) each =
    All-cons P low (range_with_len (low + 1) count) (each low (omega arith) (omega arith))
    (All-range P (low + 1) count (λ k from below. each k (omega arith) (omega arith)))
