-- Closing a table under the rules.
use Rattle.std.specs.Prelude.{◌≡◌, ℕ, ◌<◌, ◌^◌, List, ◌++◌, length}
use Rattle.ct_words.specs.Entry.{IsEntry}
use Rattle.ct_rule_parts.specs.declared.support.Support.{Support}
use Rattle.ct_rule_parts.specs.Slot.{Slot}
use Rattle.ct_rule_parts.specs.Support.{AllStand}
use Rattle.ct_rules.specs.declared.rule.Rule.{Rule}
use Rattle.ct_rules.specs.Closed.{IsSatisfied, IsClosed}
use Rattle.ct_rules.specs.Derivation.{LineValue}
use Rattle.ct_rules.specs.Rule.{rule_side}
use Rattle.ct_kept.specs.Kept.{KeptValue, IsKept, Grew}
use Rattle.ct_slots.specs.Number.{bound_of}
use Rattle.ct_slots.specs.Worklist.{WorkValue, IsMarked, IsIdle}

-- what changes while a table is closed: what it keeps, the slots that are still to be looked at, and how often a rule's value was asked for
pub record ClosingValue : Type 0 where
  pub kept : KeptValue
  pub work : WorkValue
  pub evaluations : ℕ

-- each rule gives nothing better at the slot than what stands there
abbrev pub IsSatisfiedAt : List Support → (Slot → ℕ) → Slot → Type 0
IsSatisfiedAt supports bounds s = (r : Rule) → rule_side r ≡ s.0 → IsSatisfied supports bounds r s.1

-- each slot of the table is marked, or no rule gives anything better there
abbrev pub IsPending : List Support → List ℕ → WorkValue → Type 0
IsPending supports bounds work = (s : Slot) → IsEntry s.1 → ¬ (IsMarked work s) → IsSatisfiedAt supports (bound_of bounds) s

-- a table that can be closed: over supports that stand it is kept well, and each slot is marked or satisfied
pub record CanClose (supports : List Support) (closing : ClosingValue) : Type 0 where
  pub stand : AllStand supports
  pub few : length supports < 2 ^ 32
  pub kept : IsKept supports closing.kept
  pub pending : IsPending supports closing.kept.bounds closing.work

-- a table that was closed: it grew from what it was, nothing is marked, and no rule gives anything better
pub record IsClosing (supports : List Support) (old new : ClosingValue) : Type 0 where
  pub kept : IsKept supports new.kept
  pub base : new.kept.base ≡ old.kept.base
  pub grew : Grew old.kept new.kept
  pub idle : IsIdle new.work
  pub closed : IsClosed supports (bound_of new.kept.bounds)

-- lines were put at the end and nothing else is known
abbrev pub HasMoreLines : KeptValue → KeptValue → Type 0
HasMoreLines old new = (new.base ≡ old.base) × ((added : List LineValue) × (new.lines ≡ old.lines ++ added))
