-- Words as texts of the digits 0 and 1.
use Rattle.std.specs.Prelude.{ℕ, zero, suc, ◌+◌, ◌-◌, ◌*◌, ◌^◌, Bool, ◌==◌, ◌||◌, ◌&&◌, if◌then◌else◌, List, [], ◌∷◌, length, Option, Some, None}
use Rattle.std.specs.List.{list_all}
use Rattle.ct_words.specs.Word.{digit}

-- the list f 0, f 1, .., f (n - 1)
abbrev pub tabulate : (ℕ → ℕ) → ℕ → List ℕ
tabulate f zero = []
tabulate f (suc n) = f 0 ∷ tabulate (λ p. f (suc p)) n

-- the text of the word x of length n: its digits as characters (48 is `0`), from place 0 on
unfoldable pub word_text : ℕ → ℕ → List ℕ
word_text n x = tabulate (λ p. 48 + digit n x p) n

-- the character `0` or `1`
abbrev pub is_binary_digit : ℕ → Bool
is_binary_digit b = b == 48 || b == 49

-- the number that a text of binary digits writes, the most significant first
abbrev pub binary_value : List ℕ → ℕ
binary_value [] = 0
binary_value (b ∷ bs) = (b - 48) * 2 ^ length bs + binary_value bs

-- the word of length n that the text writes, if it is n digits `0` and `1`
unfoldable pub word_of : ℕ → List ℕ → Option ℕ
word_of n text = if length text == n && list_all is_binary_digit text then Some (binary_value text) else None
