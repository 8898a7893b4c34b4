-- A table while supports are taken out.
use Rattle.std.specs.Prelude.{◌≡◌, ℕ, List, drop, slice_get, option_map}
use Rattle.ct_words.specs.Entry.{IsEntry}
use Rattle.ct_rule_parts.specs.declared.support.Support.{Support}
use Rattle.ct_rule_parts.specs.Slot.{Slot, slot_of, IsBetter}
use Rattle.ct_rules.specs.Closed.{IsClosed}
use Rattle.ct_rules.specs.Derivation.{LineValue}
use Rattle.ct_rules.specs.Removal.{Places, RestsOnPlaces, voided}
use Rattle.ct_table.specs.Closing.{ClosingValue}
use Rattle.ct_kept.specs.Kept.{KeptValue, BaseValue, IsKept, reason_of, set_back}
use Rattle.ct_slots.specs.Number.{bound_of}
use Rattle.ct_slots.specs.Worklist.{WorkValue, IsMarked, IsIdle}
use Rattle.ct_table.specs.Removal.{claim_and_rule}
use Rattle.ct_table.specs.Table.{IsTable}

-- a table was set back to its base, and these are the lines that followed
pub record IsSetBack (supports : List Support) (old : KeptValue) (base : BaseValue) (closing : ClosingValue) (later : List LineValue) : Type 0 where
  pub table : IsTable supports old base closing.work
  pub back : closing.kept ≡ set_back base old
  pub later_are : later ≡ drop old.base old.lines

-- the slot of a line is marked where the line is better than what stands there
abbrev pub IsMarkedIfLost : List ℕ → WorkValue → LineValue → Type 0
IsMarkedIfLost bounds work l = IsBetter l.claim.side l.claim.value (bound_of bounds (slot_of l.claim)) → IsMarked work (slot_of l.claim)

-- a table from which the supports of a set are taken out, but that they have their places still: it is closed, and each slot whose reason did not
-- rest on them keeps the claim and the rule of its reason
pub record IsTakenOut (gone : Places) (supports : List Support) (old : KeptValue) (new : ClosingValue) : Type 0 where
  pub kept : IsKept (voided gone supports) new.kept
  pub closed : IsClosed (voided gone supports) (bound_of new.kept.bounds)
  pub idle : IsIdle new.work
  pub keeps : (s : Slot) → IsEntry s.1 → ¬ (RestsOnPlaces old.lines gone (reason_of old s)) →
      option_map claim_and_rule (slice_get new.kept.lines (reason_of new.kept s)) ≡ option_map claim_and_rule (slice_get old.lines (reason_of old s))
