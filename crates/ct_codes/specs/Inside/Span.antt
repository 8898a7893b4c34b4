-- The sums of basis words in blocks of 64.
use Rattle.std.specs.Prelude.{◌≡◌, ℕ, ◌*◌, ◌^◌, ◌≤◌, Bool, nat_lt, List, length, slice_index, take, drop}
use Rattle.ct_words.specs.declared.limits.TheConstants.{MAX_N}
use Rattle.ct_words.specs.Word.{distance}
use Rattle.ct_words.specs.Coset.{span_word, coset_list}
use Rattle.ct_codes.specs.Inside.Rows.{AreRows}
use Rattle.ct_codes.specs.Inside.Translated.{translated}

-- what the search reads: the sums of the first six basis words, their rows, and the sums of the others
pub record AreParts (rows block steps basis : List ℕ) : Type 0 where
  pub size : (6 ≤ length basis) × (length basis ≤ MAX_N)
  pub rows_are : AreRows rows block
  pub block_is : block ≡ translated (take 6 basis) 0
  pub steps_are : steps ≡ translated (drop 6 basis) 0

-- the sum of basis words that s chooses is closer to the word than d
abbrev pub is_close_sum : ℕ → List ℕ → ℕ → ℕ → Bool
is_close_sum d basis word s = nat_lt (distance 32 word (span_word basis s)) d

-- choice t is closer than d to representative a alone
abbrev pub is_close_choice : ℕ → List ℕ → List ℕ → ℕ → ℕ → Bool
is_close_choice d basis representatives a t =
    nat_lt (distance 32 (slice_index (coset_list basis representatives) (a * 2 ^ length basis)) (slice_index (coset_list basis representatives) t)) d
