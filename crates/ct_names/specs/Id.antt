-- The names that pieces of evidence go by.
use Rattle.std.specs.Prelude.{ℕ, Bool, false, nat_le, ◌==◌, ◌&&◌, ◌||◌, List, [], ◌∷◌, length}
use Rattle.std.specs.List.{list_all}
use Rattle.std.specs.Char.{is_ascii_lowercase, is_ascii_digit}
use Rattle.ct_names.specs.declared.id.TheConstants.{MAX_ID}

-- what may stand in an id: a lower-case letter, a digit, `-` (45) or `_` (95)
abbrev pub is_id_byte : ℕ → Bool
is_id_byte b = is_ascii_lowercase b || is_ascii_digit b || b == 45 || b == 95

-- an id: 1 to 32 bytes, a lower-case letter first, then lower-case letters, digits, `-` or `_`
abbrev pub is_id : List ℕ → Bool
is_id [] = false
is_id (b ∷ bs) = nat_le (length (b ∷ bs)) MAX_ID && is_ascii_lowercase b && list_all is_id_byte bs
