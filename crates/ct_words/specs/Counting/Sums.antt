-- Sums of numbers: over the numbers below a bound, and of whole numbers over a list.
use Rattle.std.specs.Prelude.{ℕ, zero, suc, ◌+◌, ℤ, pos, ◌+ℤ◌, List, [], ◌∷◌}

-- f 0 + f 1 + .. + f (k - 1)
abbrev pub sum_below : (ℕ → ℕ) → ℕ → ℕ
sum_below f zero = 0
sum_below f (suc k) = sum_below f k + f k

-- the sum of the whole numbers f x over the elements x of a list
abbrev pub total : {X : Type 0} → (X → ℤ) → List X → ℤ
total f [] = pos 0
total f (x ∷ xs) = f x +ℤ total f xs
