-- Sums over an odd number of words (Best, Brouwer, MacWilliams, Odlyzko and Sloane 1978, Bounds for binary codes of length less than 25).
use Rattle.std.specs.Prelude.{ℕ, zero, suc, ◌*◌, ℤ, pos, ◌*ℤ◌, List, length}
use Rattle.ct_words.specs.Counting.Alternating.{total_below}
use Rattle.ct_words.specs.Counting.Binomials.{choose}
use Rattle.ct_words.specs.Numbers.{multiplier}

-- a sum that the numbers of k reach over all ordered pairs of m words, m odd: m² for k = 0, and for other k the number of words of weight k
abbrev pub least_sum : ℕ → ℕ → ℕ → ℕ
least_sum n m zero = m * m
least_sum n m (suc k) = choose n (suc k)

-- c_0 m² + c_1 C(n,1) + c_2 C(n,2) + ..
abbrev pub odd_sum : ℕ → ℕ → List ℤ → ℤ
odd_sum n m c = total_below (λ k. multiplier c k *ℤ pos (least_sum n m k)) (length c)
