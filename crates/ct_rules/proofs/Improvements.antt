-- Bounds to which a rule gives something better, and the bounds with that in their place.
use Rattle.std.proofs.Common.{◌≡◌, ℕ, List, [], ◌∷◌, length, map, All, Option, Some, None, refl, sym, ap, ◌∙◌, subst, inl, inr, ◌⊎◌}
use Rattle.std.proofs.lemmas.List.Elements.{All-nil, All-cons, All-contains}
use Rattle.std.proofs.lemmas.Option.{none-some, same_Some}
use Rattle.ct_words.specs.declared.entry.Entry.{Entry}
use Rattle.ct_rules.specs.declared.rule.Rule.{Rule}
use Rattle.ct_rule_parts.specs.declared.support.Support.{Support}
use Rattle.ct_rules.specs.Rule.{rule_side, premises_of, value_of}
use Rattle.ct_rule_parts.specs.Slot.{IsBetter, Slot, claim_at, IsNoBetter}
use Rattle.ct_rules.specs.Derivation.{IsDerived}
use Rattle.ct_rules.specs.Closed.{IsSatisfied, IsClosed}
use Rattle.ct_rules.proofs.Applied.{applies_from_premises}
use Rattle.ct_rules.proofs.ClosedBounds.{AreDerived, derived_from_bounds}
use Rattle.ct_rules.proofs.Slack.{better_or_not, replaced, replaced-each}
use Rattle.ct_rules.proofs.TableLists.{Instance, table_instances, table_instances-complete}

-- a rule gives something better than what stands
pub record Improvement (supports : List Support) (bounds : Slot → ℕ) : Type 0 where
  pub rule : Rule
  pub entry : Entry
  pub slots : List Slot
  pub value : ℕ
  pub premises : premises_of supports rule entry ≡ Some slots
  pub value_is : value_of supports rule entry (map bounds slots) ≡ Some value
  pub better : IsBetter (rule_side rule) value (bounds (rule_side rule, entry))

-- a rule gives nothing better at an entry, or something better
satisfied_or_better : (supports : List Support) (bounds : Slot → ℕ) (r : Rule) (e : Entry)
    → IsSatisfied supports bounds r e ⊎ Improvement supports bounds
satisfied_or_better supports bounds r e = by_premises (premises_of supports r e) refl
  where
    value_over : (slots others : List Slot) → premises_of supports r e ≡ Some slots
        → premises_of supports r e ≡ Some others
        → value_of supports r e (map bounds slots) ≡ value_of supports r e (map bounds others)
    value_over slots others premises there =
        ap (λ (all : List Slot). value_of supports r e (map bounds all)) (same_Some slots others (sym premises ∙ there))

    by_comparison : (slots : List Slot) (v : ℕ) → premises_of supports r e ≡ Some slots
        → value_of supports r e (map bounds slots) ≡ Some v
        → IsNoBetter (rule_side r) v (bounds (rule_side r, e)) ⊎ IsBetter (rule_side r) v (bounds (rule_side r, e))
        → IsSatisfied supports bounds r e ⊎ Improvement supports bounds
    by_comparison slots v premises value (inl worse) = inl (λ others u there given.
        let same : v ≡ u = same_Some v u (sym value ∙ value_over slots others premises there ∙ given) in
        subst (λ (x : ℕ). IsNoBetter (rule_side r) x (bounds (rule_side r, e))) same worse)
    by_comparison slots v premises value (inr better) =
        inr (record {
          rule = r;
          entry = e;
          slots = slots;
          value = v;
          premises = premises;
          value_is = value;
          better = better;
        })

    by_value : (slots : List Slot) (o : Option ℕ) → premises_of supports r e ≡ Some slots
        → value_of supports r e (map bounds slots) ≡ o → IsSatisfied supports bounds r e ⊎ Improvement supports bounds
    by_value slots None premises value = inl (λ others u there given.
        absurd (none-some u (sym value ∙ value_over slots others premises there ∙ given)))
    by_value slots (Some v) premises value =
        by_comparison slots v premises value (better_or_not (rule_side r) v (bounds (rule_side r, e)))

    by_premises : (o : Option (List Slot)) → premises_of supports r e ≡ o
        → IsSatisfied supports bounds r e ⊎ Improvement supports bounds
    by_premises None premises = inl (λ others u there given. absurd (none-some others (sym premises ∙ there)))
    by_premises (Some slots) premises = by_value slots (value_of supports r e (map bounds slots)) premises refl

-- no instance of a list gives anything better, or some rule does
all_satisfied_or_better : (supports : List Support) (bounds : Slot → ℕ) (instances : List Instance)
    → All (λ i. IsSatisfied supports bounds i.0 i.1) instances ⊎ Improvement supports bounds
all_satisfied_or_better supports bounds [] = inl (All-nil (λ i. IsSatisfied supports bounds i.0 i.1))
all_satisfied_or_better supports bounds (i ∷ instances) =
    go (satisfied_or_better supports bounds i.0 i.1) (all_satisfied_or_better supports bounds instances)
  where
    go : IsSatisfied supports bounds i.0 i.1 ⊎ Improvement supports bounds
        → All (λ i. IsSatisfied supports bounds i.0 i.1) instances ⊎ Improvement supports bounds
        → All (λ i. IsSatisfied supports bounds i.0 i.1) (i ∷ instances) ⊎ Improvement supports bounds
    go (inr better) rest = inr better
    go (inl here) (inr better) = inr better
    go (inl here) (inl rest) = inl (All-cons (λ i. IsSatisfied supports bounds i.0 i.1) i instances here rest)

-- bounds are closed, or some rule gives something better
pub closed_or_better : (supports : List Support) (bounds : Slot → ℕ)
    → IsClosed supports bounds ⊎ Improvement supports bounds
closed_or_better supports bounds = go (all_satisfied_or_better supports bounds (table_instances (length supports)))
  where
    go : All (λ i. IsSatisfied supports bounds i.0 i.1) (table_instances (length supports))
        ⊎ Improvement supports bounds
        → IsClosed supports bounds ⊎ Improvement supports bounds
    go (inr better) = inr better
    go (inl all) = inl (λ r e slots v premises value.
        All-contains (λ i. IsSatisfied supports bounds i.0 i.1) (table_instances (length supports)) (r, e) all
        (table_instances-complete supports r e (applies_from_premises supports r e slots premises))
        slots v premises value)

-- what is better is derived
pub improvement_is_derived : (supports : List Support) (bounds : Slot → ℕ) → AreDerived supports bounds
    → (better : Improvement supports bounds)
    → IsDerived supports (claim_at (rule_side better.rule, better.entry) better.value)
improvement_is_derived supports bounds derived better =
    derived_from_bounds supports bounds better.rule better.entry better.slots better.value derived
    better.premises better.value_is

-- so are the bounds with it in its place
pub AreDerived-replaced : (supports : List Support) (bounds : Slot → ℕ) (at : Slot) (v : ℕ) → AreDerived supports bounds
    → IsDerived supports (claim_at at v) → AreDerived supports (replaced bounds at v)
AreDerived-replaced supports bounds at v derived new s entry =
    replaced-each (λ t x. IsDerived supports (claim_at t x)) bounds at v s new (derived s entry)
