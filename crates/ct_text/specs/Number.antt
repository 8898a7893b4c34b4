-- Numbers as commands write them.
use Rattle.std.specs.Prelude.{ℕ, ◌+◌, ◌-◌, ◌*◌, ◌^◌, nat_lt, Bool, ◌==◌, ◌&&◌, ◌||◌, not, if◌then◌else◌, List, ◌∷◌, length, slice_index, fold, Option, Some, None}
use Rattle.std.specs.List.{list_all}
use Rattle.std.specs.Char.{is_ascii_digit}
use Rattle.std.specs.Fmt.{decimal}

-- whether the text is decimal digits without a leading zero: `0`, or a digit `1` to `9` and then digits (48 is `0`)
abbrev pub is_numeral : List ℕ → Bool
is_numeral text = list_all is_ascii_digit text && (length text == 1 || nat_lt 1 (length text) && not (slice_index text 0 == 48))

-- the value of decimal digits, the most significant first
abbrev pub decimal_value : List ℕ → ℕ
decimal_value text = fold (λ value b. 10 * value + (b - 48)) 0 text

-- the number below 2 ^ 64 that the text writes, if it writes one
unfoldable pub number_of : List ℕ → Option ℕ
number_of text = if is_numeral text && nat_lt (decimal_value text) (2 ^ 64) then Some (decimal_value text) else None

-- a space (32) and a number
abbrev pub spaced : ℕ → List ℕ
spaced n = 32 ∷ decimal n
