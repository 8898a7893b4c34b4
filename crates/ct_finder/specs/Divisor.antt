-- Greatest common divisors (Euclid, Elements, book VII).
use Rattle.std.specs.Prelude.{ℕ, zero, suc, ◌%◌, ◌==◌, Bool, if◌then◌else◌, List, [], ◌∷◌, map, sum_by, ℤ, pos, unsigned_abs, int_div}
use Rattle.std.specs.List.{list_all}

-- whether a number divides each entry of a row
abbrev pub divides_each : ℕ → List ℤ → Bool
divides_each m row = list_all (λ z. unsigned_abs z % m == 0) row

-- the greatest number from 1 to a limit that divides each entry of a row, 0 where none does
abbrev pub greatest_divisor : ℕ → List ℤ → ℕ
greatest_divisor zero row = 0
greatest_divisor (suc m) row = if divides_each (suc m) row then suc m else greatest_divisor m row

-- the greatest number that divides each entry of a row, 0 where each is 0: it is at most the sum of their absolute values
unfoldable pub gcd_of : List ℤ → ℕ
gcd_of row = greatest_divisor (sum_by unsigned_abs row) row

-- the greatest common divisor of two numbers
abbrev pub gcd : ℕ → ℕ → ℕ
gcd a b = gcd_of (pos a ∷ pos b ∷ [])

-- what a row is divided by: the greatest number that divides each of its entries, 1 where each is 0
abbrev pub divisor : List ℤ → ℕ
divisor row = if gcd_of row == 0 then 1 else gcd_of row

-- the row, each entry divided by it
abbrev pub reduced : List ℤ → List ℤ
reduced row = map (λ z. int_div z (pos (divisor row))) row
