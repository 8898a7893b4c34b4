-- Words that pivots reduce, as the echelon form of a basis does: sums of basis words to 0.
use Rattle.std.specs.Prelude.{◌≡◌, ◌≢◌, ℕ, ◌/◌, ◌%◌, ◌^◌, ◌<◌, ◌==◌, if◌then◌else◌, bit_xor, List, [], ◌∷◌, length, slice_index, All}
use Rattle.ct_codes.specs.declared.light.Pivot.{Pivot}
use Rattle.ct_words.specs.Coset.{span_word}

-- the word, with the pivot added where it has a one at the pivot's place
abbrev pub reduced_by : Pivot → ℕ → ℕ
reduced_by p x = bit_xor x (if x / 2 ^ p.place % 2 == 1 then p.word else 0)

-- what the pivots in turn leave of a word
abbrev pub reduced : List Pivot → ℕ → ℕ
reduced [] x = x
reduced (p ∷ ps) x = reduced ps (reduced_by p x)

-- the pivots are words with places of words and leave nothing of each basis word, and no sum of one basis word or more is 0
pub record ArePivots (pivots : List Pivot) (basis : List ℕ) : Type 0 where
  pub places : All (λ p. p.place < 32) pivots
  pub words : All (λ p. p.word < 2 ^ 32) pivots
  pub nothing : All (λ b. reduced pivots b ≡ 0) basis
  pub independent : (s : ℕ) → 0 < s → s < 2 ^ length basis → span_word basis s ≢ 0

-- what the pivots leave of the words with a single one, by its place from the last
abbrev pub AreUnits : List Pivot → List ℕ → Type 0
AreUnits pivots units = (q : ℕ) → q < length units → slice_index units q ≡ reduced pivots (2 ^ q)
