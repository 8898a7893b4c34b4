-- Sums of whole numbers over the numbers below a bound, and the signs of alternating sums.
use Rattle.std.specs.Prelude.{ℕ, zero, suc, ℤ, pos, neg_ℤ, ◌+ℤ◌}

-- f 0 + f 1 + .. + f (k - 1), of whole numbers
abbrev pub total_below : (ℕ → ℤ) → ℕ → ℤ
total_below f zero = pos 0
total_below f (suc k) = total_below f k +ℤ f k

-- (-1)^j
abbrev pub sign : ℕ → ℤ
sign zero = pos 1
sign (suc j) = neg_ℤ (sign j)
