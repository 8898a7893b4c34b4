-- Which pieces of evidence lines need.
use Rattle.std.specs.Prelude.{◌≡◌, ◌<◌, ℕ, ◌↔◌, List, [], All, Contains, slice_get, Some}
use Rattle.std.specs.List.{filter_map, slice_index_or}
use Rattle.std.specs.List.Sorted.{IsStrictlyIncreasing}
use Rattle.ct_rules.specs.Rule.{named_place}
use Rattle.ct_rules.specs.Derivation.{LineValue}

-- the places of the supports that the rules of lines name, in the order of the lines
abbrev pub cited_places : List LineValue → List ℕ
cited_places lines = filter_map (λ l. named_place l.rule) lines

-- the parts of each piece are before it
abbrev pub AreEarlier : List (List ℕ) → Type 0
AreEarlier parts = (k : ℕ) (places : List ℕ) → slice_get parts k ≡ Some places → All (λ p. p < k) places

-- lines need the piece at a place, where each piece has a list of the places of its parts: the rule of a line names what it supports, or it is a part of a
-- piece that they need
pub data IsNeeded (parts : List (List ℕ)) (lines : List LineValue) : ℕ → Type 0 where
  by_line : (p : ℕ) → Contains (cited_places lines) p → IsNeeded parts lines p
  by_piece : (p q : ℕ) → IsNeeded parts lines p → Contains (slice_index_or parts p []) q → IsNeeded parts lines q

-- the places of the pieces that lines need, and no others, in ascending order
pub record AreNeeded (parts : List (List ℕ)) (lines : List LineValue) (places : List ℕ) : Type 0 where
  pub ascending : IsStrictlyIncreasing places
  pub needed : (p : ℕ) → Contains places p ↔ IsNeeded parts lines p
