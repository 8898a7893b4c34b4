-- What the rules give at a slot over the bounds that stand.
use Rattle.std.specs.Prelude.{◌≡◌, ℕ, if◌then◌else◌, List, [], map, Option, Some, None}
use Rattle.ct_words.specs.declared.entry.Entry.{Entry}
use Rattle.ct_words.specs.Entry.{IsEntry}
use Rattle.ct_rule_parts.specs.declared.support.Support.{Support}
use Rattle.ct_rule_parts.specs.Slot.{Slot, IsBetter, IsNoBetter}
use Rattle.ct_rules.specs.declared.rule.Rule.{Rule}
use Rattle.ct_rules.specs.Rule.{rule_side, named_place, parts_of, premises_at, applies, value_of}

-- the bound that a rule gives at an entry over the bounds that stand
abbrev pub value_over : List Support → (Slot → ℕ) → Rule → Entry → Option ℕ
value_over supports bounds r e =
    if applies supports r e then value_of supports r e (map bounds (premises_at supports r e)) else None

-- the rule gives the bound, which is better than what stands; without a rule it is what stands
abbrev pub IsGiven : List Support → (Slot → ℕ) → Slot → ℕ → Option Rule → Type 0
IsGiven supports bounds s v None = v ≡ bounds s
IsGiven supports bounds s v (Some r) = (rule_side r ≡ s.0) × (value_over supports bounds r s.1 ≡ Some v) × IsBetter s.0 v (bounds s)

-- a rule gives nothing better than it
abbrev pub IsWithin : List Support → (Slot → ℕ) → Slot → ℕ → Rule → Type 0
IsWithin supports bounds s best r = (v : ℕ) → value_over supports bounds r s.1 ≡ Some v → IsNoBetter s.0 v best

-- no rule of its side gives anything better than it
abbrev pub IsLimit : List Support → (Slot → ℕ) → Slot → ℕ → Type 0
IsLimit supports bounds s limit = (r : Rule) → rule_side r ≡ s.0 → IsWithin supports bounds s limit r

-- no rule that rests on nothing, neither on a support nor on a bound, gives anything better than what stands
abbrev pub AreGrounded : List Support → (Slot → ℕ) → Type 0
AreGrounded supports bounds = (r : Rule) (e : Entry) → IsEntry e → named_place r ≡ None → (parts_of r None).rests_on e ≡ [] →
    IsWithin supports bounds (rule_side r, e) (bounds (rule_side r, e)) r
