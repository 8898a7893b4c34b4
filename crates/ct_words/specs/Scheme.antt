-- Delsarte's inequalities (Delsarte 1973, An algebraic approach to the association schemes of coding theory; MacWilliams and Sloane, chapter 21).
use Rattle.std.specs.Prelude.{ℕ, ℤ, pos, ◌≤ℤ◌, ◌^◌, ◌<◌, unsigned_abs, List, All}
use Rattle.ct_words.specs.Counting.PairTotals.{pair_total}

-- over each list of words of a space, repeats included, the values at the indices of all ordered pairs of its words add up to at least 0
abbrev pub IsPositive : (ℕ → Type 0) → (ℕ → ℕ → ℕ) → (ℕ → ℤ) → Type 0
IsPositive belongs index value = (words : List ℕ) → All belongs words → pos 0 ≤ℤ pair_total (λ x y. value (index x y)) words

-- a number of a scheme lies strictly between -2^47 and 2^47
abbrev pub IsSmall : ℤ → Type 0
IsSmall z = unsigned_abs z < 2 ^ 47
