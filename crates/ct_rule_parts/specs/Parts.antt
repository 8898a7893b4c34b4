-- What a rule of the table is made of (MacWilliams and Sloane; Brouwer, Shearer, Sloane and Smith 1990), and the bound that it gives.
use Rattle.std.specs.Prelude.{ℕ, ◌+◌, ◌/◌, ◌&&◌, nat_le, min, Bool, true, if◌then◌else◌, List, [], ◌∷◌, map, is_some, Option, Some, None}
use Rattle.std.specs.Option.{unwrap_or}
use Rattle.ct_words.specs.declared.limits.TheConstants.{MAX_BOUND}
use Rattle.ct_words.specs.declared.entry.Entry.{Entry}
use Rattle.ct_words.specs.declared.claim.Side.{Side}
use Rattle.ct_words.specs.declared.claim.Side.TheVariants.{Lower, Upper}
use Rattle.ct_words.specs.Entry.{is_entry}
use Rattle.ct_rule_parts.specs.Slot.{Slot}

-- what a rule is made of
pub record RuleParts : Type 0 where
  -- the side of the bounds that it gives, and of those that it rests on
  pub side : Side
  -- whether it is defined at an entry, if all that it rests on there is in the table
  pub condition : Entry → Bool
  -- the entries whose bounds it rests on, in order
  pub rests_on : Entry → List Entry
  -- the number that it gives where these have such bounds, before the limit of a bound is laid on it
  pub number : Entry → List ℕ → Option ℕ

-- whether all are entries of the table
abbrev pub are_entries : List Entry → Bool
are_entries [] = true
are_entries (e ∷ es) = is_entry e && are_entries es

-- whether a rule is defined at an entry: it is one of the table, its condition holds there, and all that it rests on is in the table
abbrev pub is_defined : RuleParts → Entry → Bool
is_defined p e = is_entry e && p.condition e && are_entries (p.rests_on e)

-- sides of entries
abbrev pub slots_on : Side → List Entry → List Slot
slots_on side entries = map (λ e. (side, e)) entries

-- a number within the limits of a bound: a greater one is no lower bound, and as an upper bound it is MAX_BOUND
abbrev pub within_limit : Side → Option ℕ → Option ℕ
within_limit side None = None
within_limit Lower (Some v) = if nat_le v MAX_BOUND then Some v else None
within_limit Upper (Some v) = Some (min v MAX_BOUND)

-- whether the entry has a weight
abbrev pub has_weight : Entry → Bool
has_weight e = is_some e.w

-- its weight, 0 where it has none
abbrev pub weight_of : Entry → ℕ
weight_of e = unwrap_or e.w 0

-- ⌈d/2⌉
abbrev pub half_up : ℕ → ℕ
half_up d = (d + 1) / 2

-- the first of the values, 0 where there is none
abbrev pub first : List ℕ → ℕ
first [] = 0
first (v ∷ vs) = v

-- the second of the values, 0 where there is none
abbrev pub second : List ℕ → ℕ
second [] = 0
second (v ∷ vs) = first vs
