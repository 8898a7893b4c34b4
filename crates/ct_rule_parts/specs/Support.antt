-- What pieces of evidence give to the table.
use Rattle.std.specs.Prelude.{if◌then◌else◌, List, All, Option, Some, None, ℕ}
use Rattle.ct_words.specs.declared.entry.Entry.{Entry}
use Rattle.ct_words.specs.declared.claim.Side.TheVariants.{Lower}
use Rattle.ct_words.specs.Claim.{IsTrueClaim}
use Rattle.ct_words.specs.Entry.{same_entry}
use Rattle.ct_duals.specs.Dual.{AllowsNone}
use Rattle.ct_duals.specs.Bound.{AcceptedValue, IsAccepted}
use Rattle.ct_rule_parts.specs.declared.support.Support.{Support}
use Rattle.ct_rule_parts.specs.declared.support.Support.TheVariants.{Nothing, Size, Bound, Odd, Local}

-- an accepted dual, and the number of words that parity may exclude by it
pub record OddValue : Type 0 where
  pub accepted : AcceptedValue
  pub m : ℕ

-- a support stands: its size is a true lower bound of its entry, and its dual meets its inequalities, with its own f(0); one that gives its
-- bound with a weight allows nothing
abbrev pub Stands : Support → Type 0
Stands Nothing = Unit {0}
Stands (Size e size) = IsTrueClaim (record { side = Lower; entry = e; value = size })
Stands (Bound a) = IsAccepted a × AllowsNone a.dual.entry.w a.dual.y
Stands (Odd a m) = IsAccepted a
Stands (Local a) = IsAccepted a

-- all supports of the list stand
abbrev pub AllStand : List Support → Type 0
AllStand supports = All Stands supports

-- the size that a support gives at the entry, where it gives one
abbrev pub size_at : Option Support → Entry → Option ℕ
size_at (Some (Size f size)) e = if same_entry f e then Some size else None
size_at c e = None

-- the dual whose bound a support gives at the entry, where it gives one
abbrev pub dual_at : Option Support → Entry → Option AcceptedValue
dual_at (Some (Bound a)) e = if same_entry a.dual.entry e then Some a else None
dual_at c e = None

-- the dual by which a support may exclude a number of words at the entry, with that number, where it has such
abbrev pub odd_at : Option Support → Entry → Option OddValue
odd_at (Some (Odd a m)) e = if same_entry a.dual.entry e then Some (record { accepted = a; m = m }) else None
odd_at c e = None

-- the dual whose local bound a support gives at the entry, where it gives one
abbrev pub local_at : Option Support → Entry → Option AcceptedValue
local_at (Some (Local a)) e = if same_entry a.dual.entry e then Some a else None
local_at c e = None

-- the dual that a support has at the entry, whatever it gives by it
abbrev pub dual_behind : Option Support → Entry → Option AcceptedValue
dual_behind (Some (Bound a)) e = if same_entry a.dual.entry e then Some a else None
dual_behind (Some (Odd a m)) e = if same_entry a.dual.entry e then Some a else None
dual_behind (Some (Local a)) e = if same_entry a.dual.entry e then Some a else None
dual_behind c e = None
