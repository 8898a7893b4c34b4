-- A table that begins, and one to which a support is added.
use Rattle.std.specs.Prelude.{◌≡◌, ℕ, ◌<◌, ◌^◌, List, [], ◌∷◌, ◌++◌, length}
use Rattle.ct_words.specs.declared.entry.Entry.{Entry}
use Rattle.ct_words.specs.Entry.{IsEntry}
use Rattle.ct_rule_parts.specs.declared.support.Support.{Support}
use Rattle.ct_rule_parts.specs.Support.{AllStand}
use Rattle.ct_rules.specs.Closed.{IsClosed}
use Rattle.ct_table.specs.Closing.{ClosingValue}
use Rattle.ct_kept.specs.Kept.{IsKept}
use Rattle.ct_slots.specs.Number.{bound_of}
use Rattle.ct_slots.specs.Places.{GivesTo, side_of_support}
use Rattle.ct_slots.specs.Worklist.{WorkValue, IsMarked, IsIdle}

-- closed over no supports, with no base yet
pub record IsBegun (closing : ClosingValue) : Type 0 where
  pub kept : IsKept [] closing.kept
  pub no_base : closing.kept.base ≡ 0
  pub closed : IsClosed [] (bound_of closing.kept.bounds)
  pub idle : IsIdle closing.work

-- the slot to which a support gives something is marked
abbrev pub IsMarkedIfGiven : WorkValue → Support → Type 0
IsMarkedIfGiven work support = (e : Entry) → IsEntry e → GivesTo support e → IsMarked work (side_of_support support, e)

-- a table that is closed over the supports but the last, which stands at the place
pub record CanFollow (supports : List Support) (place : ℕ) (closing : ClosingValue) : Type 0 where
  pub olds : List Support
  pub new_one : Support
  pub are : supports ≡ olds ++ new_one ∷ []
  pub end : place ≡ length olds
  pub stand : AllStand supports
  pub few : length supports < 2 ^ 32
  pub kept : IsKept supports closing.kept
  pub closed : IsClosed olds (bound_of closing.kept.bounds)
  pub idle : IsIdle closing.work
