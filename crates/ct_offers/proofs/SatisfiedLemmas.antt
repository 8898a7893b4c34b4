-- When a rule gives nothing better than what stands, and when it still does so after one bound got better.
use Rattle.std.proofs.Common.{◌≡◌, ℕ, List, [], ◌∷◌, map, Contains, Some, None, true, refl, sym, ap, subst, ◌∙◌, inl, inr, ◌⊎◌, if◌then◌else◌}
use Rattle.std.specs.Prelude.{Bool, false, Option}
use Rattle.std.proofs.lemmas.Bool.{and_parts}
use Rattle.std.proofs.lemmas.List.Elements.{Contains-append_right}
use Rattle.ct_rule_parts.proofs.PlainEntries.{in_front}
use Rattle.std.proofs.lemmas.Option.{none-some, same_Some}
use Rattle.ct_words.specs.declared.entry.Entry.{Entry}
use Rattle.ct_words.specs.declared.claim.Side.{Side}
use Rattle.ct_words.specs.Entry.{IsEntry, is_entry}
use Rattle.ct_rule_parts.specs.declared.support.Support.{Support}
use Rattle.ct_rule_parts.specs.Parts.{are_entries, slots_on}
use Rattle.ct_rule_parts.specs.Slot.{Slot, IsBetter, IsNoBetter}
use Rattle.ct_rule_parts.proofs.SlotLemmas.{IsNoBetter-self}
use Rattle.ct_rules.specs.declared.rule.Rule.{Rule}
use Rattle.ct_rules.specs.Closed.{IsSatisfied}
use Rattle.ct_rules.specs.Rule.{rule_side, applies, parts_over, premises_at, premises_of, value_of}
use Rattle.ct_rules.proofs.Applied.{IsDefined, premises-defined, applies_from_premises}
use Rattle.ct_offers.specs.Offers.{value_over, IsWithin}
use Rattle.ct_slots.proofs.BetterLemmas.{better-no_worse}

-- what is there where a test holds is there only where it holds
pub where_given : {X : Type 0} (b : Bool) (o : Option X) (x : X) → (if b then o else None) ≡ Some x → (b ≡ true) × (o ≡ Some x)
where_given true o x h = (refl, h)
where_given false o x h = absurd (none-some x h)

-- the value over bounds of a rule that is defined
pub value_over-defined : (supports : List Support) (f : Slot → ℕ) (r : Rule) (e : Entry) → applies supports r e ≡ true
    → value_over supports f r e ≡ value_of supports r e (map f (premises_at supports r e))
value_over-defined supports f r e h =
    ap (λ (b : Bool). if b then value_of supports r e (map f (premises_at supports r e)) else None) h

-- the value of the premises' bounds is the value over the bounds
pub over_from_premises : (supports : List Support) (f : Slot → ℕ) (r : Rule) (e : Entry) (slots : List Slot) (v : ℕ)
    → premises_of supports r e ≡ Some slots → value_of supports r e (map f slots) ≡ Some v
    → value_over supports f r e ≡ Some v
over_from_premises supports f r e slots v premises value =
    let there = applies_from_premises supports r e slots premises in
    let same = (premises-defined supports r e slots premises).1 in
    value_over-defined supports f r e there ∙ ap (λ (these : List Slot). value_of supports r e (map f these)) same ∙ value

-- a rule within what stands gives nothing better
pub satisfied_within : (supports : List Support) (f : Slot → ℕ) (r : Rule) (e : Entry)
    → IsWithin supports f (rule_side r, e) (f (rule_side r, e)) r → IsSatisfied supports f r e
satisfied_within supports f r e within slots v premises value =
    within v (over_from_premises supports f r e slots v premises value)

-- and one that gives nothing better is within what stands
pub within_from_satisfied : (supports : List Support) (f : Slot → ℕ) (r : Rule) (e : Entry) → IsSatisfied supports f r e
    → IsWithin supports f (rule_side r, e) (f (rule_side r, e)) r
within_from_satisfied supports f r e satisfied v value =
    let there = where_given (applies supports r e) (value_of supports r e (map f (premises_at supports r e))) v value in
    satisfied (premises_at supports r e) v (ap (λ (b : Bool). if b then Some (premises_at supports r e) else None) there.0) there.1

-- one that gives nothing, or nothing better
pub satisfied_by_none : (supports : List Support) (f : Slot → ℕ) (r : Rule) (e : Entry) → value_over supports f r e ≡ None
    → IsSatisfied supports f r e
satisfied_by_none supports f r e none =
    satisfied_within supports f r e (λ v is. absurd (none-some v (sym none ∙ is)))

pub satisfied_by_value : (supports : List Support) (f : Slot → ℕ) (r : Rule) (e : Entry) (u : ℕ)
    → value_over supports f r e ≡ Some u → IsNoBetter (rule_side r) u (f (rule_side r, e)) → IsSatisfied supports f r e
satisfied_by_value supports f r e u given worse =
    satisfied_within supports f r e
    (λ v is. subst (λ z. IsNoBetter (rule_side r) z (f (rule_side r, e))) (same_Some u v (sym given ∙ is)) worse)

-- bounds g are bounds f but that of a slot, which is better
pub record IsBetterAt (f g : Slot → ℕ) (s : Slot) : Type 0 where
  pub better : IsBetter s.0 (g s) (f s)
  pub others : (t : Slot) → IsEntry t.1 → (t ≡ s) ⊎ (g t ≡ f t)

-- none is worse
pub better-at : (f g : Slot → ℕ) (s t : Slot) → IsBetterAt f g s → IsEntry t.1 → IsNoBetter t.0 (f t) (g t)
better-at f g s t is entry = elim (is.others t entry) [
  | inl same ↦
      subst (λ (u : Slot). IsNoBetter u.0 (f u) (g u)) (sym same) (better-no_worse s.0 (g s) (f s) is.better)
  | inr same ↦ subst (IsNoBetter t.0 (f t)) (sym same) (IsNoBetter-self t.0 (f t))
]

-- entries among which is that of the slot, or whose bounds are the same
pub resting : (f g : Slot → ℕ) (s : Slot) (side : Side) (es : List Entry) → IsBetterAt f g s → are_entries es ≡ true
    → ((side ≡ s.0) × Contains es s.1) ⊎ (map g (slots_on side es) ≡ map f (slots_on side es))
resting f g s side [] is entries = inr refl
resting f g s side (e ∷ es) is entries =
    let both = and_parts (is_entry e) (are_entries es) entries in
    elim (is.others (side, e) both.0) [
      | inl same ↦
          inl (
            ap (λ (t : Slot). t.0) same,
            subst (Contains (e ∷ es)) (ap (λ (t : Slot). t.1) same) (in_front e e es refl),
          )
      | inr here ↦ elim (resting f g s side es is both.1) [
        | inl rests ↦ inl (rests.0, Contains-append_right (e ∷ []) es s.1 rests.1)
        | inr rest ↦
            inr (ap (λ v. v ∷ map g (slots_on side es)) here ∙ ap (λ (vs : List ℕ). f (side, e) ∷ vs) rest)
      ]
    ]

-- a rule that gave nothing better over the old bounds, and that does not rest on the slot, gives nothing better over the new ones
pub satisfied_after : (supports : List Support) (f g : Slot → ℕ) (s : Slot) (r : Rule) (e : Entry) → IsBetterAt f g s
    → (applies supports r e ≡ true → rule_side r ≡ s.0 → Contains ((parts_over supports r).rests_on e) s.1
    → IsSatisfied supports g r e)
    → (IsEntry e → IsWithin supports f (rule_side r, e) (g (rule_side r, e)) r)
    → IsSatisfied supports g r e
satisfied_after supports f g s r e is rests before slots v premises value =
    go (resting f g s (rule_side r) ((parts_over supports r).rests_on e) is known.premises)
  where
    known : IsDefined (parts_over supports r) e
    known = (premises-defined supports r e slots premises).0

    there : applies supports r e ≡ true
    there = applies_from_premises supports r e slots premises

    go : ((rule_side r ≡ s.0) × Contains ((parts_over supports r).rests_on e) s.1)
        ⊎ (map g (premises_at supports r e) ≡ map f (premises_at supports r e))
        → IsNoBetter (rule_side r) v (g (rule_side r, e))
    go (inl (side, among)) = rests there side among slots v premises value
    go (inr same) =
        before known.entry v
        (value_over-defined supports f r e there ∙ ap (value_of supports r e) (sym same)
        ∙ sym (value_over-defined supports g r e there) ∙ over_from_premises supports g r e slots v premises value)
