-- The supports at an entry, found by the entry.
use Rattle.std.specs.Prelude.{◌≡◌, ◌≢◌, ◌⊎◌, ℕ, ◌<◌, ◌≤◌, ◌^◌, if◌then◌else◌, List, length, slice_get, slice_index_or, slice_set, Some, None, Option}
use Rattle.ct_words.specs.declared.claim.Side.{Side}
use Rattle.ct_words.specs.declared.claim.Side.TheVariants.{Lower, Upper}
use Rattle.ct_words.specs.declared.entry.Entry.{Entry}
use Rattle.ct_words.specs.Entry.{IsEntry, is_entry}
use Rattle.ct_rule_parts.specs.declared.support.Support.{Support}
use Rattle.ct_rule_parts.specs.declared.support.Support.TheVariants.{Nothing, Size, Bound, Odd, Local}
use Rattle.ct_rule_parts.specs.Support.{size_at, dual_behind}
use Rattle.ct_slots.specs.Number.{entry_number, side_size}

-- a support gives something to an entry: a size, or something by a dual
abbrev pub GivesTo : Support → Entry → Type 0
GivesTo support e = (size_at (Some support) e ≢ None) ⊎ (dual_behind (Some support) e ≢ None)

-- the side on which a support gives something, where it gives anything
abbrev pub side_of_support : Support → Side
side_of_support Nothing = Lower
side_of_support (Size e size) = Lower
side_of_support (Bound a) = Upper
side_of_support (Odd a m) = Upper
side_of_support (Local a) = Upper

-- the entry of the table to which a support gives something, where there is one
abbrev pub entry_of_support : Support → Option Entry
entry_of_support Nothing = None
entry_of_support (Size e size) = if is_entry e then Some e else None
entry_of_support (Bound a) = if is_entry a.dual.entry then Some a.dual.entry else None
entry_of_support (Odd a m) = if is_entry a.dual.entry then Some a.dual.entry else None
entry_of_support (Local a) = if is_entry a.dual.entry then Some a.dual.entry else None

-- the place stands for the entry
abbrev pub IsPlaceOf : List (Option Entry) → Entry → ℕ → Type 0
IsPlaceOf entries e place = slice_get entries place ≡ Some (Some e)

-- each support that gives something to an entry of the table has a place that stands for it, and there are no more places than supports; a
-- place may stand for an entry to which its support gives nothing any more
pub record AreSupportPlaces (supports : List Support) (entries : List (Option Entry)) : Type 0 where
  pub count : length entries ≡ length supports
  pub given : (place : ℕ) (support : Support) (e : Entry) → IsEntry e → slice_get supports place ≡ Some support → GivesTo support e → IsPlaceOf entries e place

-- a place is not above the last one
abbrev pub IsUpTo : Option ℕ → ℕ → Type 0
IsUpTo None place = ⊥
IsUpTo (Some last) place = place ≤ last

-- for each number of an entry the last of its places, and for each place the one before it that stands for the same entry
pub record AreChained (entries : List (Option Entry)) (before last : List (Option ℕ)) : Type 0 where
  pub before_count : length entries ≤ length before
  pub last_count : length last ≡ side_size
  pub few : length entries ≤ 2 ^ 32
  pub entry : (place : ℕ) (e : Entry) → IsPlaceOf entries e place → IsEntry e
  pub last_is : (e : Entry) (place : ℕ) → IsEntry e → slice_index_or last (entry_number e) None ≡ Some place → IsPlaceOf entries e place
  pub last_of : (e : Entry) (place : ℕ) → IsPlaceOf entries e place → IsUpTo (slice_index_or last (entry_number e) None) place
  pub before_is : (e : Entry) (place other : ℕ) → IsPlaceOf entries e place → slice_index_or before place None ≡ Some other → (other < place) × IsPlaceOf entries e other
  pub before_of : (e : Entry) (place other : ℕ) → IsPlaceOf entries e place → IsPlaceOf entries e other → other < place → IsUpTo (slice_index_or before place None) other

-- the last place of an entry, where there is one
abbrev pub last_at : List (Option ℕ) → Option Entry → Option ℕ
last_at last None = None
last_at last (Some e) = slice_index_or last (entry_number e) None

-- the last places with another one of an entry
abbrev pub with_last : List (Option ℕ) → Option Entry → ℕ → List (Option ℕ)
with_last last None place = last
with_last last (Some e) place = slice_set last (entry_number e) (Some place)
