-- The least pair of items that passes a test, of those at some places of a list.
use Rattle.std.specs.Prelude.{◌≡◌, ℕ, ◌<◌, ◌≤◌, Bool, true, false, List, slice_index, Option, MatchOption}

-- no item from place `start` on and before place `rows` passes with a later one before place `end`
abbrev pub NoneWithin : (ℕ → ℕ → Bool) → List ℕ → ℕ → ℕ → ℕ → Type 0
NoneWithin test xs start rows end = (k m : ℕ) → start ≤ k → k < rows → k < m → m < end → test (slice_index xs k) (slice_index xs m) ≡ false

-- of the places from `start` on and before `end`, i < j are the first whose items pass, in order of i and then j
pub record IsLeastWithin (test : ℕ → ℕ → Bool) (xs : List ℕ) (start end i j : ℕ) : Type 0 where
  pub places : (start ≤ i) × (i < j) × (j < end)
  pub passes : test (slice_index xs i) (slice_index xs j) ≡ true
  pub none_before : NoneWithin test xs start i end
  pub none_in_row : (m : ℕ) → i < m → m < j → test (slice_index xs i) (slice_index xs m) ≡ false

-- the option has the least pair that passes, and none where none does
abbrev pub IsLeastWithinOrNone : (ℕ → ℕ → Bool) → List ℕ → ℕ → ℕ → Option (ℕ × ℕ) → Type 0
IsLeastWithinOrNone test xs start end found = MatchOption found (NoneWithin test xs start end end) (λ p. IsLeastWithin test xs start end p.0 p.1)
