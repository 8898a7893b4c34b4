-- The distances from any word to the words of a block, digit by digit.
use Rattle.std.specs.Prelude.{◌≡◌, ℕ, ◌/◌, ◌%◌, ◌^◌, ◌<◌, List, length, slice_index}
use Rattle.ct_words.specs.Word.{distance}

-- the number at place 1024 p + 64 v + i of the rows of 64 words: the distance of the hexadecimal digit v from the digit with the factor 16^p of word i
abbrev pub row_entry : List ℕ → ℕ → ℕ
row_entry block place = distance 4 (place / 64 % 16) (slice_index block (place % 64) / 16 ^ (place / 1024) % 16)

-- the rows are those of the words of the block
pub record AreRows (rows block : List ℕ) : Type 0 where
  pub size : length rows ≡ 8192
  pub entries : (place : ℕ) → place < 8192 → slice_index rows place ≡ row_entry block place
