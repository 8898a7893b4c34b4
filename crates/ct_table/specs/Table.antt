-- The table of bounds.
use Rattle.std.specs.Prelude.{◌≡◌, ℕ, ◌<◌, ◌≤◌, ◌*◌, ◌^◌, List, ◌++◌, length, slice_get, slice_index, option_map, All, Some}
use Rattle.ct_words.specs.Entry.{IsEntry}
use Rattle.ct_rule_parts.specs.declared.support.Support.{Support}
use Rattle.ct_rule_parts.specs.Slot.{Slot, slot_of, claim_at, IsBetter}
use Rattle.ct_rule_parts.specs.Support.{AllStand}
use Rattle.ct_rules.specs.Closed.{IsClosed}
use Rattle.ct_rules.specs.Derivation.{LineValue, IsDerivation}
use Rattle.ct_kept.specs.Kept.{KeptValue, BaseValue, IsKept, IsBase, IsGround, Rise}
use Rattle.ct_slots.specs.Number.{bound_of, side_size, slot_number}
use Rattle.ct_slots.specs.Worklist.{WorkValue, IsIdle}

-- a table as callers see it: its supports, the lines of a derivation, and by the numbers of the slots their bounds and the numbers of the lines that give them
pub record TableValue : Type 0 where
  pub supports : List Support
  pub lines : List LineValue
  pub bounds : List ℕ
  pub reasons : List ℕ

-- the bound of a slot
abbrev pub bound_at : TableValue → Slot → ℕ
bound_at table s = bound_of table.bounds s

-- the number of the line that gives it
abbrev pub reason_at : TableValue → Slot → ℕ
reason_at table s = slice_index table.reasons (slot_number s)

-- the line is the reason of the slot
abbrev pub HasReason : TableValue → Slot → LineValue → Type 0
HasReason table s line = slice_get table.lines (reason_at table s) ≡ Some line

-- what callers see of a table that keeps this
abbrev pub table_of : List Support → KeptValue → TableValue
table_of supports kept = record { supports = supports; lines = kept.lines; bounds = kept.bounds; reasons = kept.reasons }

-- a table over supports that stand: what it keeps is a derivation with a reason for each slot, no rule gives anything better, nothing is
-- still to be looked at, and its base rests on no support
pub record IsTable (supports : List Support) (held : KeptValue) (begun : BaseValue) (work : WorkValue) : Type 0 where
  pub stand : AllStand supports
  pub few : length supports < 2 ^ 32
  pub kept : IsKept supports held
  pub closed : IsClosed supports (bound_of held.bounds)
  pub base : IsBase begun held
  pub idle : IsIdle work

-- a table as callers see it: over supports that stand, with a bound and a reason for each number, a derivation in which the lines of one slot rise and the last one is its reason, each slot
-- has a line that rests on nothing, and no rule gives anything better
pub record IsShownTable (table : TableValue) : Type 0 where
  pub stand : AllStand table.supports
  pub few : length table.supports < 2 ^ 32
  pub bound_count : length table.bounds ≡ 2 * side_size
  pub reason_count : length table.reasons ≡ 2 * side_size
  pub derivation : IsDerivation table.supports table.lines
  pub reasoned : (s : Slot) → IsEntry s.1 →
      option_map (λ l. l.claim) (slice_get table.lines (reason_at table s)) ≡ Some (claim_at s (bound_at table s))
  pub last : (i : ℕ) (l : LineValue) → slice_get table.lines i ≡ Some l → i ≤ reason_at table (slot_of l.claim)
  pub rise : Rise table.lines
  pub grounded : (s : Slot) → IsEntry s.1 → (i : ℕ) × (l : LineValue) × (slice_get table.lines i ≡ Some l) × (slot_of l.claim ≡ s) × IsGround l
  pub closed : IsClosed table.supports (bound_at table)

-- it grew: lines were put at its end, each better than the bound that its slot had; and a slot whose bound stayed has the same reason
pub record Grew (old new : TableValue) : Type 0 where
  pub more : (added : List LineValue) × (new.lines ≡ old.lines ++ added) × All (λ l. IsBetter l.claim.side l.claim.value (bound_at old (slot_of l.claim))) added
  pub same : (s : Slot) → IsEntry s.1 → bound_at new s ≡ bound_at old s → reason_at new s ≡ reason_at old s
