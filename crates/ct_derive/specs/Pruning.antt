-- Lines of a derivation that its last line needs, as marks of their places; and these lines alone.
use Rattle.std.specs.Prelude.{◌≡◌, ℕ, ◌+◌, ◌<◌, ◌≤◌, Bool, true, false, not, List, [], ◌∷◌, length, map, All, Contains, Some, slice_get, slice_index, slice_set, ◌⊎◌}
use Rattle.std.specs.List.{slice_index_or}
use Rattle.std.specs.List.Sorted.{IsStrictlyIncreasing}
use Rattle.ct_rules.specs.Removal.{Places, without, lowered_place}
use Rattle.ct_rules.specs.Derivation.{LineValue}

-- whether the place is marked
abbrev pub is_marked : List Bool → ℕ → Bool
is_marked marks k = slice_index_or marks k false

-- the marks, and one at each of these places
abbrev pub with_marks : List ℕ → List Bool → List Bool
with_marks [] marks = marks
with_marks (p ∷ places) marks = with_marks places (slice_set marks p true)

-- a marked line names the line at the place
abbrev pub IsNamedByMarked : List LineValue → List Bool → ℕ → Type 0
IsNamedByMarked lines marks i = (j : ℕ) × (l : LineValue) × (slice_get lines j ≡ Some l) × (is_marked marks j ≡ true) × Contains l.from i

-- a mark for each line: the last is marked, each other marked line is named by a marked one, and the lines that a marked line from this place
-- on names are marked
pub record AreMarkedFrom (place : ℕ) (lines : List LineValue) (marks : List Bool) : Type 0 where
  pub size : length marks ≡ length lines
  pub last : (k : ℕ) → k + 1 ≡ length lines → is_marked marks k ≡ true
  pub named : (k : ℕ) → is_marked marks k ≡ true → (k + 1 ≡ length lines) ⊎ IsNamedByMarked lines marks k
  pub closed : (k : ℕ) (l : LineValue) → place ≤ k → slice_get lines k ≡ Some l → is_marked marks k ≡ true →
      All (λ p. is_marked marks p ≡ true) l.from

-- the lines that the last one needs are marked, and no others
abbrev pub AreMarked : List LineValue → List Bool → Type 0
AreMarked lines marks = AreMarkedFrom 0 lines marks

-- the places that are not marked
abbrev pub unmarked : List Bool → Places
unmarked marks p = not (is_marked marks p)

-- a line that names other places
abbrev pub moved_line : (ℕ → ℕ) → LineValue → LineValue
moved_line moved l = record { claim = l.claim; rule = l.rule; from = map moved l.from }

-- a line, with the places of the lines that it names as they are once those of the set are out
abbrev pub renumbered : Places → LineValue → LineValue
renumbered gone l = moved_line (lowered_place gone) l

-- the lines once those of the set are out
abbrev pub pruned : Places → List LineValue → List LineValue
pruned gone lines = map (renumbered gone) (without gone lines)

-- for each of the first places, where it is once those of the set are out
pub record ArePlacesLeft (gone : Places) (n : ℕ) (moved : List ℕ) : Type 0 where
  pub count : length moved ≡ n
  pub places : (k : ℕ) → k < n → slice_index moved k ≡ lowered_place gone k

-- the marked places below this one, ascending
pub record ArePlacesBelow (place : ℕ) (marks : List Bool) (places : List ℕ) : Type 0 where
  pub ascending : IsStrictlyIncreasing places
  pub marked : All (λ p. (p < place) × (is_marked marks p ≡ true)) places
  pub all : (p : ℕ) → p < place → is_marked marks p ≡ true → Contains places p
