-- Delsarte's bound: U11 and V9.
use Rattle.std.proofs.Common.{◌≡◌, ℕ, ◌-◌, ◌%◌, ◌≤◌, List, [], ◌∷◌, length, map, get_or, Contains, refl, ap, sym, subst, ◌∙◌, arith, inl, inr, option_map}
use Rattle.std.specs.Prelude.{ℤ, not, is_some, Option, Some, None}
use Rattle.std.specs.Option.{ForSome}
use Rattle.std.proofs.lemmas.Bool.{and_parts, cases_lt}
use Rattle.std.proofs.lemmas.List.Elements.{All-map, All-contains}
use Rattle.std.proofs.lemmas.Option.{none-some}
use Rattle.ct_words.specs.declared.limits.TheConstants.{MAX_N}
use Rattle.ct_words.specs.declared.claim.Side.TheVariants.{Upper}
use Rattle.ct_words.specs.declared.entry.Entry.{Entry}
use Rattle.ct_words.specs.Code.{IsTrueUpper}
use Rattle.ct_words.specs.Entry.{constant_weight}
use Rattle.ct_words.specs.Constructions.Even.{even_from}
use Rattle.ct_duals.specs.Dual.{as_distance, AllowsNone}
use Rattle.ct_duals.specs.Bound.{AcceptedValue, IsAccepted, AreTrueUppers, AreAtMost, positive, dual_premises, dual_bound}
use Rattle.ct_duals.proofs.Monotone.{dual_bound-monotone}
use Rattle.ct_duals.proofs.Premises.{premises_few}
use Rattle.ct_duals.proofs.SoundDuals.{accepted-sound, accepted-some}
use Rattle.ct_rule_parts.specs.declared.support.Support.{Support}
use Rattle.ct_rule_parts.specs.declared.support.Support.TheVariants.{Bound}
use Rattle.ct_rule_parts.specs.Parts.{has_weight, slots_on}
use Rattle.ct_rule_parts.specs.Slot.{AreNoBetter}
use Rattle.ct_rule_parts.specs.Support.{Stands, dual_at}
use Rattle.ct_rule_parts.proofs.DualLemmas.{dual_there}
use Rattle.ct_rule_parts.proofs.Lawful.{IsLawful, LeadsBack, IsTrueNumber, AreTrueAt, NoWorse, same_number, no_worse-other, defined_condition}
use Rattle.ct_rule_parts.proofs.PlainEntries.{Weightless, no_weight, a_weight, written, in_front, behind, no_item}
use Rattle.ct_weight_rules.specs.Inside.RestedOn.{by_even_distance}
use Rattle.ct_weight_rules.specs.Neighbours.{unweighted, unweighted_and_nearer}
use Rattle.ct_weight_rules.specs.Delsarte.{premises_of_dual, dual_above, dual_above_of_weight}

-- true values of upper slots are true upper bounds
pub true_uppers : (es : List Entry) (vs : List ℕ) → AreTrueAt (slots_on Upper es) vs → AreTrueUppers es vs
true_uppers [] [] h = tt
true_uppers [] (v ∷ vs) h = absurd h
true_uppers (e ∷ es) [] h = absurd h
true_uppers (e ∷ es) (v ∷ vs) h = (h.0.truth, true_uppers es vs h.1)

-- better upper bounds are smaller
pub at_most : (us vs : List ℕ) → AreNoBetter Upper us vs → AreAtMost vs us
at_most [] [] h = tt
at_most [] (v ∷ vs) h = absurd h
at_most (u ∷ us) [] h = absurd h
at_most (u ∷ us) (v ∷ vs) h = (h.0, at_most us vs h.1)

-- the bound of a dual of a support that stands
dual_number : (c : Option Support) (e : Entry) (a : AcceptedValue) (vs : List ℕ) → ForSome c Stands → dual_at c e ≡ Some a
    → AreTrueUppers (dual_premises a.dual) vs → IsTrueNumber Upper e (dual_bound a.dual a.at_zero vs)
dual_number c e a vs stand at known =
    let has = dual_there c e a at in
    let accepted : IsAccepted a = (stand (Bound a) has.support).0 in
    record {
      some = accepted-some a accepted vs;
      truth = subst (λ (f : Entry). IsTrueUpper f (dual_bound a.dual a.at_zero vs)) has.entry (accepted-sound a accepted vs known);
    }

-- better premises give no greater a bound
dual-monotone : (o : Option AcceptedValue) (us vs : List ℕ) (x : ℕ) → AreNoBetter Upper us vs → option_map (λ (a : AcceptedValue). dual_bound a.dual a.at_zero us) o ≡ Some x
    → NoWorse Upper (option_map (λ (a : AcceptedValue). dual_bound a.dual a.at_zero vs) o) x
dual-monotone None us vs x h is = absurd (none-some x is)
dual-monotone (Some a) us vs x h is =
    no_worse-other Upper (dual_bound a.dual a.at_zero us) (dual_bound a.dual a.at_zero vs) x
    (dual_bound-monotone a.dual a.at_zero vs us (at_most us vs h)) is

-- an entry whose dual rests on another is at its distance, or one place nearer
pub dual-back : (e f : Entry) (a : AcceptedValue) → Weightless e → a.dual.entry ≡ e → Contains (dual_premises a.dual) f
    → Contains (by_even_distance f) e
dual-back e f a none same rests = All-contains IsBack (dual_premises a.dual) f (All-map IsBack at (positive a.dual.y) (λ k o l. back (get_or (positive a.dual.y) k o))) rests
  where
    IsBack : Entry → Type 0
    IsBack g = Contains (by_even_distance g) e

    at : ℕ × ℤ → Entry
    at p = constant_weight a.dual.entry.n (even_from a.dual.entry.d) (as_distance a.dual.entry.w p.0)

    back : (p : ℕ × ℤ) → IsBack (at p)
    back p =
        let length_is : a.dual.entry.n ≡ e.n = ap (λ (g : Entry). g.n) same in
        let distance_is : a.dual.entry.d ≡ e.d = ap (λ (g : Entry). g.d) same in
        elim (cases_lt (a.dual.entry.d % 2) 1) [
          | inl is_even ↦
              in_front (unweighted (at p)) e (unweighted_and_nearer (at p) ∷ [])
              (written a.dual.entry.n (even_from a.dual.entry.d) e none length_is (omega arith))
          | inr is_odd ↦
              behind (unweighted (at p)) e (unweighted_and_nearer (at p) ∷ [])
              (in_front (unweighted_and_nearer (at p)) e [] (written a.dual.entry.n (even_from a.dual.entry.d - 1) e none length_is (omega arith)))
        ]

pub dual_above-lawful : (c : Option Support) → IsLawful c (dual_above c)
dual_above-lawful c = record {
  sound = λ e vs x stand entry condition known is. sound e vs x stand (dual_at c e) refl known is;
  monotone = λ e us vs x h is. dual-monotone (dual_at c e) us vs x h is;
  few = λ e stand entry. few e stand (dual_at c e) refl;
}
  where
    sound : (e : Entry) (vs : List ℕ) (x : ℕ) → ForSome c Stands → (o : Option AcceptedValue) → dual_at c e ≡ o
        → AreTrueAt (slots_on Upper (premises_of_dual o)) vs → option_map (λ (a : AcceptedValue). dual_bound a.dual a.at_zero vs) o ≡ Some x → IsTrueNumber Upper e x
    sound e vs x stand None at known is = absurd (none-some x is)
    sound e vs x stand (Some a) at known is =
        same_number Upper e (dual_bound a.dual a.at_zero vs) x is
        (dual_number c e a vs stand at (true_uppers (dual_premises a.dual) vs known))

    few : (e : Entry) → ForSome c Stands → (o : Option AcceptedValue) → dual_at c e ≡ o → length (premises_of_dual o) ≤ MAX_N
    few e stand None at = omega arith
    few e stand (Some a) at =
        let accepted : IsAccepted a = (stand (Bound a) (dual_there c e a at).support).0 in
        premises_few a.dual accepted.form

pub dual_above-back : (c : Option Support) → LeadsBack (dual_above c) by_even_distance
dual_above-back c e f defined rests =
    go e f (no_weight e (and_parts (not (has_weight e)) (is_some (dual_at c e)) (defined_condition (dual_above c) e defined)).0)
    (dual_at c e) refl rests
  where
    go : (e f : Entry) → Weightless e → (o : Option AcceptedValue) → dual_at c e ≡ o → Contains (premises_of_dual o) f
        → Contains (by_even_distance f) e
    go e f none None at rests = no_item (Contains (by_even_distance f) e) f rests
    go e f none (Some a) at rests = dual-back e f a none (dual_there c e a at).entry rests

-- a dual of an entry with weight that allows nothing rests on nothing
pub premises-none : (a : AcceptedValue) (w : ℕ) → AllowsNone a.dual.entry.w a.dual.y → a.dual.entry.w ≡ Some w → dual_premises a.dual ≡ []
premises-none a w none is =
    ap (λ y. map (λ p. constant_weight a.dual.entry.n (even_from a.dual.entry.d) (as_distance a.dual.entry.w p.0)) (positive y))
    (subst (λ (o : Option ℕ). AllowsNone o a.dual.y) is none)

pub dual_above_of_weight-lawful : (c : Option Support) → IsLawful c (dual_above_of_weight c)
dual_above_of_weight-lawful c = record {
  sound = λ e vs x stand entry condition known is.
      sound e vs x stand (a_weight e (and_parts (has_weight e) (is_some (dual_at c e)) condition).0) (dual_at c e) refl known is;
  monotone = λ e us vs x h is. dual-monotone (dual_at c e) us vs x h is;
  few = λ e stand entry. omega arith;
}
  where
    sound : (e : Entry) (vs : List ℕ) (x : ℕ) → ForSome c Stands → (w : ℕ) × (e.w ≡ Some w) → (o : Option AcceptedValue) → dual_at c e ≡ o
        → AreTrueAt [] vs → option_map (λ (a : AcceptedValue). dual_bound a.dual a.at_zero vs) o ≡ Some x → IsTrueNumber Upper e x
    sound e vs x stand weight None at known is = absurd (none-some x is)
    sound e (v ∷ vs) x stand weight (Some a) at known is = absurd known
    sound e [] x stand weight (Some a) at known is =
        let has = dual_there c e a at in
        let none = premises-none a weight.0 (stand (Bound a) has.support).1 (ap (λ (g : Entry). g.w) has.entry ∙ weight.1) in
        same_number Upper e (dual_bound a.dual a.at_zero []) x is
        (dual_number c e a [] stand at (subst (λ es. AreTrueUppers es []) (sym none) tt))
