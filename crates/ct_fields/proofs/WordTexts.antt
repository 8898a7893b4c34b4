-- The texts of words that are written.
use Rattle.std.proofs.Common.{◌≡◌, ℕ, ◌<◌, true, ◌==◌, List, [], ◌∷◌, map, inl, inr, refl, eqb-true, arith}
use Rattle.std.specs.List.{list_all}
use Rattle.std.specs.Str.{IsAscii}
use Rattle.std.proofs.lemmas.Bool.{and_parts, cases_Bool}
use Rattle.std.proofs.lemmas.Str.Ascii.{IsAscii-nil, IsAscii-cons}
use Rattle.toml.specs.Data.{string, items_depth}
use Rattle.toml.specs.View.{items_of}
use Rattle.ct_words.specs.Text.{word_text, is_binary_digit}
use Rattle.ct_words.proofs.TextLemmas.{digits-word_text}

-- a binary digit is below 128
digit-lt : (b : ℕ) → is_binary_digit b ≡ true → b < 128
digit-lt b h =
    elim (cases_Bool (b == 48)) [
      | inl zero ↦ let is = eqb-true b 48 zero in omega arith
      | inr other ↦ let is = eqb-true b 49 (rw other at h) in omega arith
    ]

-- binary digits are ASCII
IsAscii-digits : (text : List ℕ) → list_all is_binary_digit text ≡ true → IsAscii text
IsAscii-digits [] h = IsAscii-nil
IsAscii-digits (b ∷ bs) h =
    let (first, rest) = and_parts (is_binary_digit b) (list_all is_binary_digit bs) h in
    IsAscii-cons b bs (digit-lt b first) (IsAscii-digits bs rest)

-- the text of a word is ASCII
pub IsAscii-word_text : (n x : ℕ) → IsAscii (word_text n x)
IsAscii-word_text n x = IsAscii-digits (word_text n x) (digits-word_text n x)

-- texts don't nest
pub texts_depth : (n : ℕ) (words : List ℕ) → items_depth (items_of (map (λ x. string (word_text n x)) words)) ≡ 0
texts_depth n [] = refl
texts_depth n (x ∷ xs) = rw (texts_depth n xs) refl
