-- What a table keeps: the lines of a derivation, and for each slot its bound and the place of the line that gives it.
use Rattle.std.specs.Prelude.{◌≡◌, ℕ, ◌*◌, ◌<◌, ◌≤◌, List, [], ◌∷◌, ◌++◌, length, take, slice_get, slice_set, slice_index, All, Some, None, option_map}
use Rattle.ct_words.specs.declared.entry.Entry.{Entry}
use Rattle.ct_words.specs.Entry.{IsEntry}
use Rattle.ct_rule_parts.specs.declared.support.Support.{Support}
use Rattle.ct_rule_parts.specs.Slot.{IsBetter, IsNoBetter, Slot, slot_of, claim_at}
use Rattle.ct_rules.specs.declared.rule.Rule.{Rule}
use Rattle.ct_rules.specs.Derivation.{LineValue, IsDerivation}
use Rattle.ct_rules.specs.Rule.{rule_side, named_place, parts_of, value_of}
use Rattle.ct_slots.specs.Number.{slot_number, bound_of, side_size}

-- what a table keeps, as callers see it: bounds and reasons by the numbers of the slots, lines, and how many of these rest on no support
-- whatever comes and goes
pub record KeptValue : Type 0 where
  pub bounds : List ℕ
  pub reasons : List ℕ
  pub lines : List LineValue
  pub base : ℕ

-- bounds and reasons at one time, and how many lines there were
pub record SavedValue : Type 0 where
  pub bounds : List ℕ
  pub reasons : List ℕ
  pub count : ℕ

-- bounds and reasons at one time
pub record BaseValue : Type 0 where
  pub bounds : List ℕ
  pub reasons : List ℕ

-- bounds and reasons at one time, and the lines that followed those of the base
pub record UndoValue : Type 0 where
  pub bounds : List ℕ
  pub reasons : List ℕ
  pub later : List LineValue

-- what is kept with the bounds and reasons of the base, and its lines alone
abbrev pub set_back : BaseValue → KeptValue → KeptValue
set_back base kept = record { bounds = base.bounds; reasons = base.reasons; lines = take kept.base kept.lines; base = kept.base }

-- the place of the line that gives the bound of a slot
abbrev pub reason_of : KeptValue → Slot → ℕ
reason_of kept s = slice_index kept.reasons (slot_number s)

-- one more line, whose claim is now the bound of its slot
abbrev pub with_line_put : KeptValue → LineValue → KeptValue
with_line_put kept line = record {
  bounds = slice_set kept.bounds (slot_number (slot_of line.claim)) line.claim.value;
  reasons = slice_set kept.reasons (slot_number (slot_of line.claim)) (length kept.lines);
  lines = kept.lines ++ line ∷ [];
  base = kept.base;
}

-- a rule rests on nothing at an entry: on no support and on no bound
abbrev pub RestsOnNothing : Rule → Entry → Type 0
RestsOnNothing r e = (named_place r ≡ None) × ((parts_of r None).rests_on e ≡ [])

-- no rule that rests on nothing gives a better bound of the slot
abbrev pub IsGroundBound : Slot → ℕ → Type 0
IsGroundBound s v = (r : Rule) (u : ℕ) → rule_side r ≡ s.0 → RestsOnNothing r s.1 → value_of [] r s.1 [] ≡ Some u → IsNoBetter s.0 u v

-- a line that rests on no line and on no support, and whose bound no rule that rests on nothing betters
pub record IsGround (line : LineValue) : Type 0 where
  pub no_lines : line.from ≡ []
  pub no_support : named_place line.rule ≡ None
  pub best : IsGroundBound (slot_of line.claim) line.claim.value

-- two lines at different places bound one slot: the later does it better
abbrev pub Rise : List LineValue → Type 0
Rise lines = (i j : ℕ) (l m : LineValue) → i < j → slice_get lines i ≡ Some l → slice_get lines j ≡ Some m →
    slot_of l.claim ≡ slot_of m.claim → IsBetter l.claim.side m.claim.value l.claim.value

-- a table that is kept well over its supports
pub record IsKept (supports : List Support) (kept : KeptValue) : Type 0 where
  -- there is a bound and a reason for each number, and the lines of the base are among the lines
  pub bound_count : length kept.bounds ≡ 2 * side_size
  pub reason_count : length kept.reasons ≡ 2 * side_size
  pub base_lines : kept.base ≤ length kept.lines
  -- the lines are a derivation
  pub derivation : IsDerivation supports kept.lines
  -- the reason of a slot is a line that gives its bound
  pub reasoned : (s : Slot) → IsEntry s.1 →
      option_map (λ l. l.claim) (slice_get kept.lines (reason_of kept s)) ≡ Some (claim_at s (bound_of kept.bounds s))
  -- it is the last line of its slot, and the lines of one slot rise
  pub last : (i : ℕ) (l : LineValue) → slice_get kept.lines i ≡ Some l → i ≤ reason_of kept (slot_of l.claim)
  pub rise : Rise kept.lines
  -- each slot has a line that rests on nothing, the best such
  pub grounded : (s : Slot) → IsEntry s.1 → (i : ℕ) × (l : LineValue) × (slice_get kept.lines i ≡ Some l) × (slot_of l.claim ≡ s) × IsGround l

-- the base: its bounds and reasons are those of the first lines, which are kept well over no supports
abbrev pub IsBase : BaseValue → KeptValue → Type 0
IsBase base kept = IsKept [] (set_back base kept)

-- it grew: lines were put at its end, each better than the bound that its slot had; and a slot whose bound stayed has the same reason
pub record Grew (old new : KeptValue) : Type 0 where
  pub more : (added : List LineValue) × (new.lines ≡ old.lines ++ added) × All (λ l. IsBetter l.claim.side l.claim.value (bound_of old.bounds (slot_of l.claim))) added
  pub same : (s : Slot) → IsEntry s.1 → bound_of new.bounds s ≡ bound_of old.bounds s → reason_of new s ≡ reason_of old s
