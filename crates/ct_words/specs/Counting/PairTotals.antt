-- Sums over the ordered pairs of elements of a list, and squares.
use Rattle.std.specs.Prelude.{ℤ, ◌*ℤ◌, List}
use Rattle.ct_words.specs.Counting.Sums.{total}

-- the sum of f x y over all ordered pairs of elements of the list, each element with itself included
abbrev pub pair_total : {X : Type 0} → (X → X → ℤ) → List X → ℤ
pair_total f xs = total (λ x. total (f x) xs) xs

-- the square of a whole number
abbrev pub square : ℤ → ℤ
square z = z *ℤ z
