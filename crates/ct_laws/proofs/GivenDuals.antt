-- A support gives the bound of its dual at the dual's entry.
use Rattle.std.proofs.Common.{◌≡◌, ℕ, ◌≤◌, Bool, true, false, cond, List, [], map, All, Option, Some, None, is_some, refl, sym, ap, ◌∙◌, subst, arith, option_map}
use Rattle.std.specs.Prelude.{slice_get, min}
use Rattle.ct_words.specs.declared.limits.TheConstants.{MAX_BOUND}
use Rattle.ct_words.specs.declared.claim.Claim.{Claim}
use Rattle.ct_words.specs.declared.claim.Side.TheVariants.{Upper}
use Rattle.ct_words.specs.declared.entry.Entry.{Entry}
use Rattle.ct_duals.specs.Bound.{AcceptedValue, IsAccepted, dual_premises, dual_bound}
use Rattle.ct_duals.proofs.Premises.{premises_are_entries}
use Rattle.ct_rule_parts.specs.declared.support.Support.{Support}
use Rattle.ct_rule_parts.specs.declared.support.Support.TheVariants.{Bound}
use Rattle.ct_rule_parts.specs.Parts.{are_entries, is_defined, has_weight, slots_on, within_limit}
use Rattle.ct_rule_parts.specs.Slot.{Slot, slot_of, claim_at}
use Rattle.ct_rule_parts.specs.Support.{Stands, dual_at}
use Rattle.ct_rule_parts.proofs.DualLemmas.{dual_at-own, are_entries-from_All}
use Rattle.ct_weight_rules.specs.Delsarte.{premises_of_dual, dual_above, dual_above_of_weight}
use Rattle.ct_weight_rules.proofs.LawfulDelsarte.{premises-none}
use Rattle.ct_rules.specs.declared.rule.Rule.{Rule}
use Rattle.ct_rules.specs.declared.rule.Rule.TheVariants.{U11, V9}
use Rattle.ct_rules.specs.Derivation.{IsDerived, IsBest}
use Rattle.ct_laws.specs.DualRule.{rule_of_dual}
use Rattle.ct_rules.specs.Rule.{row_of, rule_side, premises_of, value_of}
use Rattle.ct_rules.proofs.JoinedDerivations.{derived_by_rule}

-- what a support gives at the entry of its dual
given-dual : (c : Option Support) (a : AcceptedValue) → c ≡ Some (Bound a) → dual_at c a.dual.entry ≡ Some a
given-dual c a is = ap (λ (o : Option Support). dual_at o a.dual.entry) is ∙ dual_at-own a

-- the bound of a dual is within the limit
bound-limit : (a : AcceptedValue) (us : List ℕ) → within_limit Upper (Some (dual_bound a.dual a.at_zero us)) ≡ Some (dual_bound a.dual a.at_zero us)
unfolding dual_bound
bound-limit a us =
    let same : min (dual_bound a.dual a.at_zero us) MAX_BOUND ≡ dual_bound a.dual a.at_zero us = omega arith in
    ap Some same

-- what is said of the rule that names a dual: it is defined at the dual's entry, on what the dual rests on, and gives its bound there
pub record GivesBound (supports : List Support) (r : Rule) (a : AcceptedValue) : Type 0 where
  pub side : rule_side r ≡ Upper
  pub premises : premises_of supports r a.dual.entry ≡ Some (slots_on Upper (dual_premises a.dual))
  pub value : (us : List ℕ) → value_of supports r a.dual.entry us ≡ Some (dual_bound a.dual a.at_zero us)

-- the rule of a dual without weight
plain-gives : (supports : List Support) (place : ℕ) (a : AcceptedValue) → IsAccepted a → slice_get supports place ≡ Some (Bound a) → has_weight a.dual.entry ≡ false
    → GivesBound supports (U11 place) a
unfolding row_of
plain-gives supports place a h at light =
    let e = a.dual.entry in
    let c = slice_get supports place in
    let given = given-dual c a at in
    let there : is_some (dual_at c e) ≡ true = ap is_some given in
    let rests : are_entries (premises_of_dual (dual_at c e)) ≡ true =
    ap (λ (o : Option AcceptedValue). are_entries (premises_of_dual o)) given ∙ are_entries-from_All (dual_premises a.dual) (premises_are_entries a.dual h.form) in
    let defined : is_defined (dual_above c) e ≡ true = rw (h.form.entry, light, there, rests) refl in
    record {
      side = refl;
      premises =
          ap (λ (b : Bool). cond b (Some (slots_on Upper (premises_of_dual (dual_at c e)))) None) defined
          ∙ ap (λ (o : Option AcceptedValue). Some (slots_on Upper (premises_of_dual o))) given;
      value = λ us.
          ap (λ (b : Bool). cond b (within_limit Upper (option_map (λ (a : AcceptedValue). dual_bound a.dual a.at_zero us) (dual_at c e))) None) defined
          ∙ ap (λ (o : Option AcceptedValue). within_limit Upper (option_map (λ (a : AcceptedValue). dual_bound a.dual a.at_zero us) o)) given ∙ bound-limit a us;
    }

-- the rule of a dual with weight, which rests on nothing
weighted-gives : (supports : List Support) (place : ℕ) (a : AcceptedValue) (w : ℕ) → Stands (Bound a) → slice_get supports place ≡ Some (Bound a) → a.dual.entry.w ≡ Some w
    → GivesBound supports (V9 place) a
unfolding row_of
weighted-gives supports place a w h at weighted =
    let e = a.dual.entry in
    let c = slice_get supports place in
    let given = given-dual c a at in
    let heavy : has_weight e ≡ true = ap is_some weighted in
    let there : is_some (dual_at c e) ≡ true = ap is_some given in
    let none = premises-none a w h.1 weighted in
    let defined : is_defined (dual_above_of_weight c) e ≡ true = rw (h.0.form.entry, heavy, there) refl in
    record {
      side = refl;
      premises =
          ap (λ (b : Bool). cond b (Some []) None) defined
          ∙ ap (λ (es : List Entry). Some (slots_on Upper es)) (sym none);
      value = λ us.
          ap (λ (b : Bool). cond b (within_limit Upper (option_map (λ (a : AcceptedValue). dual_bound a.dual a.at_zero us) (dual_at c e))) None) defined
          ∙ ap (λ (o : Option AcceptedValue). within_limit Upper (option_map (λ (a : AcceptedValue). dual_bound a.dual a.at_zero us) o)) given ∙ bound-limit a us;
    }

-- the rule that names a dual that stands
pub dual-gives : (supports : List Support) (place : ℕ) (a : AcceptedValue) → Stands (Bound a) → slice_get supports place ≡ Some (Bound a)
    → GivesBound supports (rule_of_dual place a.dual.entry) a
dual-gives supports place a h at = go a.dual.entry.w refl
  where
    go : (w : Option ℕ) → a.dual.entry.w ≡ w → GivesBound supports (rule_of_dual place a.dual.entry) a
    go None plain =
        let light : has_weight a.dual.entry ≡ false = ap is_some plain in
        subst (λ (r : Rule). GivesBound supports r a) (ap (λ (b : Bool). cond b (V9 place) (U11 place)) (sym light)) (plain-gives supports place a h.0 at light)
    go (Some w) weighted =
        let heavy : has_weight a.dual.entry ≡ true = ap is_some weighted in
        subst (λ (r : Rule). GivesBound supports r a) (ap (λ (b : Bool). cond b (V9 place) (U11 place)) (sym heavy)) (weighted-gives supports place a w h at weighted)

-- so the best upper bound of its entry is no greater than its bound, from whatever upper bounds are derived of what it rests on
pub dual-reached : (supports : List Support) (place : ℕ) (a : AcceptedValue) (claims : List Claim) (v : ℕ) → Stands (Bound a)
    → slice_get supports place ≡ Some (Bound a) → map slot_of claims ≡ slots_on Upper (dual_premises a.dual) → All (IsDerived supports) claims
    → IsBest supports (Upper, a.dual.entry) v → v ≤ dual_bound a.dual a.at_zero (map (λ c. c.value) claims)
dual-reached supports place a claims v h at premises each best =
    let e = a.dual.entry in
    let us = map (λ c. c.value) claims in
    let r = rule_of_dual place e in
    let gives = dual-gives supports place a h at in
    let derived : IsDerived supports (claim_at (rule_side r, e) (dual_bound a.dual a.at_zero us)) =
    derived_by_rule supports r e claims (dual_bound a.dual a.at_zero us) (gives.premises ∙ ap (λ (ss : List Slot). Some ss) (sym premises)) each (gives.value us) in
    best.none_better (dual_bound a.dual a.at_zero us) (subst (λ (s : Slot). IsDerived supports (claim_at s (dual_bound a.dual a.at_zero us))) (ap (λ side. (side, e)) gives.side) derived)
