-- Marks of the pieces that lines need.
use Rattle.std.specs.Prelude.{◌≡◌, ◌≤◌, ℕ, Bool, true, List, length, All, Contains, slice_get, Some}
use Rattle.ct_rules.specs.Derivation.{LineValue}
use Rattle.ct_derive.specs.Pieces.{cited_places, IsNeeded}
use Rattle.ct_derive.specs.Pruning.{is_marked}

-- a mark for each piece: only needed pieces are marked, those that lines name are, and so are the parts of marked ones from this place on
pub record AreMarkedPieces (place : ℕ) (parts : List (List ℕ)) (lines : List LineValue) (marks : List Bool) : Type 0 where
  pub size : length marks ≡ length parts
  pub sound : (p : ℕ) → is_marked marks p ≡ true → IsNeeded parts lines p
  pub cited : (p : ℕ) → Contains (cited_places lines) p → is_marked marks p ≡ true
  pub closed : (k : ℕ) (places : List ℕ) → place ≤ k → slice_get parts k ≡ Some places → is_marked marks k ≡ true →
      All (λ p. is_marked marks p ≡ true) places
