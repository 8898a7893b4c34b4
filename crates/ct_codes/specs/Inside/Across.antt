-- The first pair that passes a test, of an item of one list and an item of another.
use Rattle.std.specs.Prelude.{◌≡◌, ℕ, ◌<◌, Bool, true, false, List, length, slice_index, Option, MatchOption}

-- no item of the first list before place `end` passes with an item of the second
abbrev pub NoneAcross : (ℕ → ℕ → Bool) → List ℕ → List ℕ → ℕ → Type 0
NoneAcross test xs ys end = (k m : ℕ) → k < end → m < length ys → test (slice_index xs k) (slice_index ys m) ≡ false

-- the item at place i of the first list and that at place j of the second are the first to pass, in order of i and then j
pub record IsFirstAcross (test : ℕ → ℕ → Bool) (xs ys : List ℕ) (i j : ℕ) : Type 0 where
  pub places : (i < length xs) × (j < length ys)
  pub passes : test (slice_index xs i) (slice_index ys j) ≡ true
  pub none_before : NoneAcross test xs ys i
  pub none_in_row : (m : ℕ) → m < j → test (slice_index xs i) (slice_index ys m) ≡ false

-- the option has the first pair that passes, and none where none does
abbrev pub IsFirstAcrossOrNone : (ℕ → ℕ → Bool) → List ℕ → List ℕ → Option (ℕ × ℕ) → Type 0
IsFirstAcrossOrNone test xs ys found = MatchOption found (NoneAcross test xs ys (length xs)) (λ p. IsFirstAcross test xs ys p.0 p.1)
