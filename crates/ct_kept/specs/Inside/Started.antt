-- A table that is started: the slots with smaller numbers have their ground lines, and there are no other lines.
use Rattle.std.specs.Prelude.{◌≡◌, ℕ, ◌*◌, ◌<◌, length, slice_get, Some}
use Rattle.ct_words.specs.Entry.{IsEntry}
use Rattle.ct_rules.specs.Derivation.{LineValue}
use Rattle.ct_rule_parts.specs.Slot.{Slot, slot_of}
use Rattle.ct_kept.specs.Kept.{KeptValue, reason_of}
use Rattle.ct_kept.specs.Inside.Ground.{IsGroundLine}
use Rattle.ct_slots.specs.Number.{bound_of, side_size, slot_number}

-- a slot has a ground line for its reason
pub record HasGround (kept : KeptValue) (s : Slot) : Type 0 where
  pub line : LineValue
  pub there : slice_get kept.lines (reason_of kept s) ≡ Some line
  pub value : line.claim.value ≡ bound_of kept.bounds s
  pub ground : IsGroundLine s line

-- a line is the ground line of a slot with a smaller number, and the slot's reason
pub record IsGroundBelow (kept : KeptValue) (count i : ℕ) (l : LineValue) : Type 0 where
  pub entry : IsEntry l.claim.entry
  pub below : slot_number (slot_of l.claim) < count
  pub reason : i ≡ reason_of kept (slot_of l.claim)
  pub ground : IsGroundLine (slot_of l.claim) l

-- started up to a number
pub record IsStarted (count : ℕ) (kept : KeptValue) : Type 0 where
  pub bound_count : length kept.bounds ≡ 2 * side_size
  pub reason_count : length kept.reasons ≡ 2 * side_size
  pub no_base : kept.base ≡ 0
  pub grounded : (s : Slot) → IsEntry s.1 → slot_number s < count → HasGround kept s
  pub lines : (i : ℕ) (l : LineValue) → slice_get kept.lines i ≡ Some l → IsGroundBelow kept count i l
