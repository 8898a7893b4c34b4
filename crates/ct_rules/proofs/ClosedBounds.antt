-- True bounds to which no rule gives anything better are best possible; and there is one best value.
use Rattle.std.proofs.Common.{◌≡◌, ℕ, List, [], ◌∷◌, map, All, Some, refl, sym, ap, ◌∙◌, subst, arith}
use Rattle.std.proofs.lemmas.List.Elements.{All-nil, All-cons, All-head, All-tail}
use Rattle.ct_words.specs.declared.entry.Entry.{Entry}
use Rattle.ct_words.specs.declared.claim.Claim.{Claim}
use Rattle.ct_words.specs.declared.claim.Side.{Side}
use Rattle.ct_words.specs.declared.claim.Side.TheVariants.{Lower, Upper}
use Rattle.ct_words.specs.Claim.{IsTrueClaim}
use Rattle.ct_words.specs.Entry.{IsEntry}
use Rattle.ct_rules.specs.declared.rule.Rule.{Rule}
use Rattle.ct_rule_parts.specs.declared.support.Support.{Support}
use Rattle.ct_rule_parts.specs.Support.{AllStand}
use Rattle.ct_rules.specs.Rule.{rule_side, premises_of, value_of}
use Rattle.ct_rule_parts.specs.Slot.{Slot, slot_of, claim_at, IsNoBetter, AreNoBetter}
use Rattle.ct_rules.specs.Derivation.{LineValue, claims_at, Follows, IsDerived, IsBest}
use Rattle.ct_rules.specs.Closed.{AreTrue, IsClosed}
use Rattle.ct_rules.proofs.Applied.{cited-stands}
use Rattle.ct_rules.proofs.RuleLaws.{rule_entry, premises_in_table, premises_on_side, value_is_monotone}
use Rattle.ct_rules.proofs.Derivations.{each_derived, claim_of_line, derived_claims_are_true}
use Rattle.ct_rules.proofs.JoinedDerivations.{derived_by_rule}

-- what is no better than what is no better
pub no_better-trans : (side : Side) (u v w : ℕ) → IsNoBetter side u v → IsNoBetter side v w → IsNoBetter side u w
no_better-trans Lower u v w h k = omega arith
no_better-trans Upper u v w h k = omega arith

-- two bounds neither of which is better are one
pub no_better-antisymmetric : (side : Side) (u v : ℕ) → IsNoBetter side u v → IsNoBetter side v u → u ≡ v
no_better-antisymmetric Lower u v h k = omega arith
no_better-antisymmetric Upper u v h k = omega arith

-- the claims that the bounds make of slots
abbrev pub claims_of : (Slot → ℕ) → List Slot → List Claim
claims_of bounds slots = map (λ s. claim_at s (bounds s)) slots

pub slots_of_claims : (bounds : Slot → ℕ) (slots : List Slot) → map slot_of (claims_of bounds slots) ≡ slots
slots_of_claims bounds [] = refl
slots_of_claims bounds (s ∷ slots) = ap (λ (rest : List Slot). s ∷ rest) (slots_of_claims bounds slots)

pub values_of_claims : (bounds : Slot → ℕ) (slots : List Slot)
    → map (λ c. c.value) (claims_of bounds slots) ≡ map bounds slots
values_of_claims bounds [] = refl
values_of_claims bounds (s ∷ slots) = ap (λ (rest : List ℕ). bounds s ∷ rest) (values_of_claims bounds slots)

-- what holds of the bounds of all slots of the table holds of the claims of slots of the table
pub All-claims_of : (P : Claim → Type 0) (bounds : Slot → ℕ) (slots : List Slot) → All (λ s. IsEntry s.1) slots
    → ((s : Slot) → IsEntry s.1 → P (claim_at s (bounds s))) → All P (claims_of bounds slots)
All-claims_of P bounds [] inside each = All-nil P
All-claims_of P bounds (s ∷ slots) inside each =
    All-cons P (claim_at s (bounds s)) (claims_of bounds slots)
    (each s (All-head (λ t. IsEntry t.1) s slots inside))
    (All-claims_of P bounds slots (All-tail (λ t. IsEntry t.1) s slots inside) each)

-- each bound of a slot of the table is derived
abbrev pub AreDerived : List Support → (Slot → ℕ) → Type 0
AreDerived supports bounds = (s : Slot) → IsEntry s.1 → IsDerived supports (claim_at s (bounds s))

-- derived bounds are true
pub AreTrue-from_derived : (supports : List Support) (bounds : Slot → ℕ) → AllStand supports
    → AreDerived supports bounds → AreTrue bounds
AreTrue-from_derived supports bounds stand derived s entry =
    derived_claims_are_true supports stand (claim_at s (bounds s)) (derived s entry)

-- what a rule gives from derived bounds is derived
pub derived_from_bounds : (supports : List Support) (bounds : Slot → ℕ) (r : Rule) (e : Entry) (slots : List Slot)
    (v : ℕ) → AreDerived supports bounds → premises_of supports r e ≡ Some slots
    → value_of supports r e (map bounds slots) ≡ Some v → IsDerived supports (claim_at (rule_side r, e) v)
derived_from_bounds supports bounds r e slots v derived premises value =
    derived_by_rule supports r e (claims_of bounds slots) v
    (premises ∙ ap Some (sym (slots_of_claims bounds slots)))
    (All-claims_of (IsDerived supports) bounds slots (premises_in_table supports r e slots premises) derived)
    (rw values_of_claims value)

-- a claim is no better than what stands at its slot
abbrev pub IsWithin : (Slot → ℕ) → Claim → Type 0
IsWithin bounds c = IsNoBetter c.side c.value (bounds (slot_of c))

-- claims of one side, none better than what stands, have values that are no better
values_within : (side : Side) (bounds : Slot → ℕ) (claims : List Claim) → All (λ s. s.0 ≡ side) (map slot_of claims)
    → All (IsWithin bounds) claims
    → AreNoBetter side (map (λ c. c.value) claims) (map bounds (map slot_of claims))
values_within side bounds [] sides within = tt
values_within side bounds (c ∷ claims) sides within =
    let here : c.side ≡ side = All-head (λ s. s.0 ≡ side) (slot_of c) (map slot_of claims) sides in
    let others = All-tail (λ s. s.0 ≡ side) (slot_of c) (map slot_of claims) sides in
    let first = All-head (IsWithin bounds) c claims within in
    let rest = All-tail (IsWithin bounds) c claims within in (
      subst (λ (s : Side). IsNoBetter s c.value (bounds (slot_of c))) here first,
      values_within side bounds claims others rest,
    )

-- a line is within closed true bounds where the lines that it rests on are
line_within : (supports : List Support) (bounds : Slot → ℕ) (before : List LineValue) (line : LineValue)
    → AllStand supports → AreTrue bounds
    → IsClosed supports bounds → Follows supports before line → All (IsWithin bounds) (claims_at before line.from)
    → IsWithin bounds line.claim
line_within supports bounds before line stand true_bounds closed follows within =
    claim_of_line (IsWithin bounds) supports before line follows
    (no_better-trans (rule_side r) line.claim.value better.0 (bounds (rule_side r, e)) better.2
    (closed r e slots better.0 follows.premises (rw values_of_claims at better.1)))
  where
    r : Rule
    r = line.rule

    e : Entry
    e = line.claim.entry

    claims : List Claim
    claims = claims_at before line.from

    slots : List Slot
    slots = map slot_of claims

    better : (v : ℕ) × (value_of supports r e (map (λ c. c.value) (claims_of bounds slots)) ≡ Some v)
        × IsNoBetter (rule_side r) line.claim.value v
    better =
        value_is_monotone supports r e (claims_of bounds slots) (map (λ c. c.value) claims) line.claim.value
        (cited-stands supports r stand)
        (follows.premises ∙ ap Some (sym (slots_of_claims bounds slots)))
        (All-claims_of IsTrueClaim bounds slots (premises_in_table supports r e slots follows.premises) true_bounds)
        (rw values_of_claims
        (values_within (rule_side r) bounds claims (premises_on_side supports r e slots follows.premises) within))
        follows.value

-- over supports that stand, nothing better than closed true bounds is derived
pub closed_bounds_are_best_possible : (supports : List Support) (bounds : Slot → ℕ) → AllStand supports
    → AreTrue bounds → IsClosed supports bounds
    → (c : Claim) → IsDerived supports c → IsNoBetter c.side c.value (bounds (slot_of c))
closed_bounds_are_best_possible supports bounds stand true_bounds closed =
    each_derived (IsWithin bounds) supports
    (λ before line follows within. line_within supports bounds before line stand true_bounds closed follows within)

-- a closed true bound that is derived is best
pub closed_bound_is_best : (supports : List Support) (bounds : Slot → ℕ) (s : Slot) → AllStand supports
    → AreTrue bounds → IsClosed supports bounds
    → IsDerived supports (claim_at s (bounds s)) → IsBest supports s (bounds s)
closed_bound_is_best supports bounds s stand true_bounds closed derived = record {
  derived = derived;
  none_better = λ u. closed_bounds_are_best_possible supports bounds stand true_bounds closed (claim_at s u);
}

-- each bound of a slot of the table is the best value of its slot
abbrev pub AreBest : List Support → (Slot → ℕ) → Type 0
AreBest supports bounds = (s : Slot) → IsEntry s.1 → IsBest supports s (bounds s)

AreDerived-from_best : (supports : List Support) (bounds : Slot → ℕ) → AreBest supports bounds
    → AreDerived supports bounds
AreDerived-from_best supports bounds best s entry = (best s entry).derived

-- best values are closed
pub best_values_are_closed : (supports : List Support) (bounds : Slot → ℕ) → AreBest supports bounds
    → IsClosed supports bounds
best_values_are_closed supports bounds best r e slots v premises value =
    (best (rule_side r, e) (rule_entry supports r e slots premises)).none_better v
    (derived_from_bounds supports bounds r e slots v (AreDerived-from_best supports bounds best) premises value)

-- there is at most one best value
pub best_is_one : (supports : List Support) (s : Slot) (u v : ℕ) → IsBest supports s u → IsBest supports s v → u ≡ v
best_is_one supports s u v h k = no_better-antisymmetric s.0 u v (k.none_better u h.derived) (h.none_better v k.derived)
