-- Codes, and the two claims that a table makes of them (MacWilliams and Sloane, chapter 1; Brouwer, Shearer, Sloane and Smith 1990 for constant weight).
use Rattle.std.specs.Prelude.{◌≡◌, ◌≢◌, ℕ, ◌^◌, ◌<◌, ◌≤◌, List, length, All, AllPairs, Option, IfSome}
use Rattle.std.specs.List.Sorted.{IsStrictlyIncreasing}
use Rattle.ct_words.specs.declared.limits.TheConstants.{MAX_N}
use Rattle.ct_words.specs.declared.code.TheConstants.{MAX_CODE_DISTANCE}
use Rattle.ct_words.specs.Word.{weight, distance}
use Rattle.ct_words.specs.declared.entry.Entry.{Entry}

-- the list is a code of length n and distance d, and of weight w if one is given: words of length n, no two of them equal, any two at distance
-- at least d, and each of the weight
pub record IsCode (n d : ℕ) (w : Option ℕ) (words : List ℕ) : Type 0 where
  pub lengths : All (λ x. x < 2 ^ n) words
  pub different : AllPairs (λ x y. x ≢ y) words
  pub apart : AllPairs (λ x y. d ≤ distance n x y) words
  pub weights : IfSome w (λ k. All (λ x. weight n x ≡ k) words)

-- the list is a code of the entry
abbrev pub IsCodeOf : Entry → List ℕ → Type 0
IsCodeOf e words = IsCode e.n e.d e.w words

-- a lower bound v of the entry is true if some code of the entry has exactly v words
abbrev pub IsTrueLower : Entry → ℕ → Type 0
IsTrueLower e v = (words : List ℕ) × IsCodeOf e words × (length words ≡ v)

-- an upper bound v of the entry is true if every code of the entry has at most v words
abbrev pub IsTrueUpper : Entry → ℕ → Type 0
IsTrueUpper e v = (words : List ℕ) → IsCodeOf e words → length words ≤ v

-- a code as callers see it: length, distance, weight where it has one, and its words
pub record CodeValue : Type 0 where
  pub n : ℕ
  pub d : ℕ
  pub w : Option ℕ
  pub words : List ℕ

-- the value is a code: lengths and distance within the limits, at least one word, and the words strictly ascending
pub record IsSoundCode (c : CodeValue) : Type 0 where
  pub length_in_range : (1 ≤ c.n) × (c.n ≤ MAX_N)
  pub distance_in_range : (1 ≤ c.d) × (c.d ≤ MAX_CODE_DISTANCE)
  pub some : 1 ≤ length c.words
  pub ascending : IsStrictlyIncreasing c.words
  pub code : IsCode c.n c.d c.w c.words
