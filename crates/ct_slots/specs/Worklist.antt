-- The slots that are still to be looked at.
use Rattle.std.specs.Prelude.{◌≡◌, ◌≢◌, ◌⊎◌, ℕ, ◌*◌, Bool, true, List, length, Contains, All, AllPairs, slice_get, Some, sum_by, cond}
use Rattle.ct_words.specs.Entry.{IsEntry}
use Rattle.ct_rule_parts.specs.Slot.{Slot}
use Rattle.ct_slots.specs.Number.{slot_number, side_size, IsSettled}

-- a worklist as callers see it: for each slot, by its number, whether it is marked, and the slots in the order in which they will be taken
pub record WorkValue : Type 0 where
  pub marks : List Bool
  pub queue : List Slot

-- the slot is marked
abbrev pub IsMarked : WorkValue → Slot → Type 0
IsMarked work s = slice_get work.marks (slot_number s) ≡ Some true

-- the slot is marked, or the bounds of its entry are one
abbrev pub IsMarkedOrSettled : List ℕ → WorkValue → Slot → Type 0
IsMarkedOrSettled bounds work s = IsMarked work s ⊎ IsSettled bounds s.1

-- no slot is marked
abbrev pub IsIdle : WorkValue → Type 0
IsIdle work = (s : Slot) → IsEntry s.1 → ¬ (IsMarked work s)

-- there is a mark for each number; the queue holds slots of the table, each once, and just the marked ones
pub record IsSoundWork (work : WorkValue) : Type 0 where
  pub count : length work.marks ≡ 2 * side_size
  pub entries : All (λ s. IsEntry s.1) work.queue
  pub once : AllPairs (λ s t. s ≢ t) work.queue
  pub marked : All (IsMarked work) work.queue
  pub queued : (s : Slot) → IsEntry s.1 → IsMarked work s → Contains work.queue s

-- how many are marked
abbrev pub waiting : WorkValue → ℕ
waiting work = sum_by (λ b. cond b 1 0) work.marks
