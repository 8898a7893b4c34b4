-- The first pair of places of a list whose items pass a test.
use Rattle.std.specs.Prelude.{◌≡◌, ℕ, suc, ◌<◌, ◌≤◌, ◌⊎◌, Bool, List, [], ◌∷◌, length, slice_index, Option, Some, None, position, IsTrue, IsFalse}
use Rattle.std.specs.Option.{option_map}

-- the first option, or the second where there is none
abbrev pub first_of : {X : Type 0} → Option X → Option X → Option X
first_of None other = other
first_of (Some x) other = Some x

-- the least pair i < j of places, in order of i and then j, whose two items pass the test
abbrev pub least_pair : (ℕ → ℕ → Bool) → List ℕ → Option (ℕ × ℕ)
least_pair test [] = None
least_pair test (x ∷ xs) =
    first_of (option_map (λ j. (0, suc j)) (position (test x) xs)) (option_map (λ p. (suc p.0, suc p.1)) (least_pair test xs))

-- the places i < j of the list hold items that pass the test, and no two places before them, in order of the first and then the second, do
pub record IsLeastPair (test : ℕ → ℕ → Bool) (xs : List ℕ) (i j : ℕ) : Type 0 where
  pub order : i < j
  pub within : j < length xs
  pub passes : IsTrue (test (slice_index xs i) (slice_index xs j))
  pub least : (k m : ℕ) → k < m → m < length xs → IsTrue (test (slice_index xs k) (slice_index xs m)) → (i < k) ⊎ ((i ≡ k) × (j ≤ m))

-- no two places of the list hold items that pass the test
abbrev pub NoPair : (ℕ → ℕ → Bool) → List ℕ → Type 0
NoPair test xs = (k m : ℕ) → k < m → m < length xs → IsFalse (test (slice_index xs k) (slice_index xs m))
