-- Bounds for all slots of a table at once.
use Rattle.std.specs.Prelude.{◌≡◌, ℕ, List, map, Some}
use Rattle.ct_words.specs.declared.entry.Entry.{Entry}
use Rattle.ct_words.specs.Claim.{IsTrueClaim}
use Rattle.ct_words.specs.Entry.{IsEntry}
use Rattle.ct_rules.specs.declared.rule.Rule.{Rule}
use Rattle.ct_rule_parts.specs.declared.support.Support.{Support}
use Rattle.ct_rules.specs.Rule.{rule_side, premises_of, value_of}
use Rattle.ct_rule_parts.specs.Slot.{Slot, claim_at, IsNoBetter}

-- the bounds are true
abbrev pub AreTrue : (Slot → ℕ) → Type 0
AreTrue bounds = (s : Slot) → IsEntry s.1 → IsTrueClaim (claim_at s (bounds s))

-- a rule gives nothing better at an entry than what stands there
abbrev pub IsSatisfied : List Support → (Slot → ℕ) → Rule → Entry → Type 0
IsSatisfied supports bounds r e = (slots : List Slot) (v : ℕ) → premises_of supports r e ≡ Some slots →
    value_of supports r e (map bounds slots) ≡ Some v → IsNoBetter (rule_side r) v (bounds (rule_side r, e))

-- no rule gives anything better than what stands
abbrev pub IsClosed : List Support → (Slot → ℕ) → Type 0
IsClosed supports bounds = (r : Rule) (e : Entry) → IsSatisfied supports bounds r e
