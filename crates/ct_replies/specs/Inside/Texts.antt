-- Texts of words of eight digits.
use Rattle.std.specs.Prelude.{◌≡◌, ◌<◌, ℕ, List, slice_get, Some}
use Rattle.ct_words.specs.Text.{word_text}

-- the text of each word of length 8, at the place of its number
abbrev pub AreTexts : List (List ℕ) → Type 0
AreTexts texts = (x : ℕ) → x < 256 → slice_get texts x ≡ Some (word_text 8 x)
