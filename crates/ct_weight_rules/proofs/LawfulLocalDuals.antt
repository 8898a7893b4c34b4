-- The local bound of a dual: V10.
use Rattle.std.proofs.Common.{◌≡◌, ℕ, ◌+◌, ◌-◌, ◌*◌, ◌≤◌, List, [], ◌∷◌, length, map, get_or, Contains, min, refl, ap, sym, subst, ◌∙◌, arith, option_map}
use Rattle.std.specs.Prelude.{ℤ, is_some, Option, Some, None}
use Rattle.std.specs.Option.{ForSome, unwrap_or}
use Rattle.std.specs.List.{All, range_with_len}
use Rattle.std.proofs.lemmas.Bool.{and_parts}
use Rattle.std.proofs.lemmas.List.Elements.{All-head, All-tail, All-map, All-filter, All-contains}
use Rattle.std.proofs.lemmas.Option.{none-some}
use Rattle.ct_words.specs.declared.limits.TheConstants.{MAX_N}
use Rattle.ct_words.proofs.Counting.Words.{Contains-map}
use Rattle.ct_words.specs.declared.claim.Side.TheVariants.{Upper}
use Rattle.ct_words.specs.declared.entry.Entry.{Entry}
use Rattle.ct_words.specs.Code.{IsCode, IsTrueUpper}
use Rattle.ct_words.specs.Entry.{IsEntry, constant_weight}
use Rattle.ct_words.specs.Constructions.Even.{even_from}
use Rattle.ct_words.specs.Numbers.{numbers_of, combination}
use Rattle.ct_words.proofs.EntryLemmas.{WeightFits, entry_limits}
use Rattle.ct_words.specs.Doubly.{IsDoubly}
use Rattle.ct_doubly.specs.Doubly.{doubly}
use Rattle.ct_doubly.proofs.DoublyTrue.{doubly-true}
use Rattle.ct_doubly.proofs.Words.{IsCode-from_doubly}
use Rattle.ct_duals.specs.declared.dual.Dual.{Dual}
use Rattle.ct_duals.specs.Dual.{as_distance, degree_of, greatest_index, IsDual}
use Rattle.ct_duals.specs.Bound.{AcceptedValue, IsAccepted, AreTrueUppers, AreAtMost, positive, dual_premises}
use Rattle.ct_duals.specs.Local.{AreTrueLocals}
use Rattle.ct_duals.specs.Check.{dual_fault}
use Rattle.ct_duals.proofs.Faults.{accepted-from_none}
use Rattle.ct_duals.proofs.LocalBound.{local_bound-monotone}
use Rattle.ct_duals.proofs.Premises.{premises_few, indices_within}
use Rattle.ct_duals.proofs.SoundDuals.{accepted-local, accepted-some_local}
use Rattle.ct_rule_parts.specs.declared.support.Support.{Support}
use Rattle.ct_rule_parts.specs.declared.support.Support.TheVariants.{Local}
use Rattle.ct_rule_parts.specs.Parts.{has_weight, weight_of, slots_on}
use Rattle.ct_rule_parts.specs.Slot.{AreNoBetter}
use Rattle.ct_rule_parts.specs.Support.{Stands, local_at}
use Rattle.ct_rule_parts.specs.Local.{doubly_at, doubly_uppers, lesser, local_value}
use Rattle.ct_rule_parts.proofs.DualLemmas.{local_there}
use Rattle.ct_words.proofs.InLists.{Contains-range_with_len}
use Rattle.ct_rule_parts.proofs.Lawful.{IsLawful, LeadsBack, IsTrueNumber, AreTrueAt, NoWorse, same_number, no_worse-other, defined_entry, defined_condition}
use Rattle.ct_rule_parts.proofs.PlainEntries.{Weighted, a_weight, no_item}
use Rattle.ct_weight_rules.specs.Inside.RestedOn.{all_weights}
use Rattle.ct_weight_rules.specs.Neighbours.{of_weight}
use Rattle.ct_weight_rules.specs.Delsarte.{premises_of_dual}
use Rattle.ct_weight_rules.specs.LocalDuals.{local_above}
use Rattle.ct_weight_rules.proofs.LawfulDelsarte.{true_uppers, at_most}

-- a doubly constant code with as many ones in both parts is a code of twice that weight
IsCode-doubly : (n w i d : ℕ) (words : List ℕ) → w ≤ n → IsDoubly w i (n - w) i d words → IsCode n d (Some (2 * i)) words
IsCode-doubly n w i d words within doubly =
    let size : w + (n - w) ≡ n = omega arith in
    let weight : i + i ≡ 2 * i = omega arith in
    subst (λ v. IsCode n d (Some v) words) weight
    (subst (λ m. IsCode m d (Some (i + i)) words) size (IsCode-from_doubly w i (n - w) i d words doubly))

-- so the lesser of a true bound of A(n,d,2i) and that of the doubly constant codes bounds these
lesser-true : (e : Entry) (w : ℕ) → IsEntry e → e.w ≡ Some w → (ps : List (ℕ × ℤ)) (us : List ℕ) → All (λ p. p.0 ≤ min w (e.n - w)) ps
    → AreTrueUppers (map (λ p. constant_weight e.n (even_from e.d) (as_distance e.w p.0)) ps) us
    → AreTrueLocals e w ps (lesser us (map (λ p. doubly_at e p.0) ps))
lesser-true e w entry is [] [] small known = tt
lesser-true e w entry is [] (u ∷ us) small known = absurd known
lesser-true e w entry is (p ∷ ps) [] small known = absurd known
lesser-true e w entry is (p ∷ ps) (u ∷ us) small known = (
  λ words code.
      let limits = entry_limits e entry in
      let fits : WeightFits e (Some w) = subst (WeightFits e) is limits.weight in
      let even = fits.0 in
      let far = fits.1 in
      let within = fits.2 in
      let low = limits.length_from in
      let high = limits.length_to in
      let index = All-head (λ (q : ℕ × ℤ). q.0 ≤ min w (e.n - w)) p ps small in
      let weight_is : weight_of e ≡ w = ap (λ o. unwrap_or o 0) is in
      let distance_is : e.d ≡ even_from e.d = omega arith in
      let heavy : 2 * p.0 ≡ as_distance e.w p.0 = ap (λ v. as_distance v p.0) (sym is) in
      let own = doubly-true w p.0 (e.n - w) p.0 e.d (omega arith) (omega arith) (omega arith) (omega arith) even words code in
      let same = ap (λ v. doubly v p.0 (e.n - v) p.0 e.d) weight_is in
      let other = known.0 words (subst (λ d. IsCode e.n d (Some (as_distance e.w p.0)) words) distance_is
      (subst (λ v. IsCode e.n e.d (Some v) words) heavy (IsCode-doubly e.n w p.0 e.d words within code))) in
      omega arith,
  lesser-true e w entry is ps us (All-tail (λ (q : ℕ × ℤ). q.0 ≤ min w (e.n - w)) p ps small) known.1,
)

-- smaller bounds have a smaller lesser one
lesser-le : (us vs ws : List ℕ) → AreAtMost us vs → AreAtMost (lesser us ws) (lesser vs ws)
lesser-le [] [] ws h = tt
lesser-le [] (v ∷ vs) ws h = absurd h
lesser-le (u ∷ us) [] ws h = absurd h
lesser-le (u ∷ us) (v ∷ vs) [] h = tt
lesser-le (u ∷ us) (v ∷ vs) (w ∷ ws) h = let first = h.0 in (omega arith, lesser-le us vs ws h.1)

-- the local bound of a dual that stands, from true upper bounds
local_value-true : (a : AcceptedValue) (w : ℕ) (us : List ℕ) → IsAccepted a → a.dual.entry.w ≡ Some w → AreTrueUppers (dual_premises a.dual) us
    → IsTrueUpper a.dual.entry (local_value a us)
local_value-true a w us h is known =
    let e = a.dual.entry in
    let degree : degree_of e ≡ min w (e.n - w) = ap (greatest_index e.n) is in
    let small : All (λ (p : ℕ × ℤ). p.0 ≤ min w (e.n - w)) a.dual.y = subst (λ m. All (λ (p : ℕ × ℤ). p.0 ≤ m) a.dual.y) degree (indices_within a.dual h.form) in
    accepted-local a h w is (lesser us (doubly_uppers a.dual))
    (lesser-true e w h.form.entry is (positive a.dual.y) us (All-filter _ (λ (p : ℕ × ℤ). p.0 ≤ min w (e.n - w)) a.dual.y small) known)

-- the same of a dual that the check accepts
pub checked_local-true : (d : Dual) (w : ℕ) (us : List ℕ) → d.entry.w ≡ Some w → IsDual d → dual_fault (numbers_of d.entry) d ≡ None
    → AreTrueUppers (dual_premises d) us → IsTrueUpper d.entry (local_value (record { dual = d; at_zero = combination (numbers_of d.entry) d.c 0 }) us)
checked_local-true d w us is form accepted known =
    local_value-true (record { dual = d; at_zero = combination (numbers_of d.entry) d.c 0 }) w us (accepted-from_none d form accepted) is known

-- better premises give no greater a bound
local-monotone : (o : Option AcceptedValue) (us vs : List ℕ) (x : ℕ) → AreNoBetter Upper us vs → option_map (λ (a : AcceptedValue). local_value a us) o ≡ Some x
    → NoWorse Upper (option_map (λ (a : AcceptedValue). local_value a vs) o) x
local-monotone None us vs x h is = absurd (none-some x is)
local-monotone (Some a) us vs x h is =
    no_worse-other Upper (local_value a us) (local_value a vs) x
    (local_bound-monotone a.dual a.at_zero (lesser vs (doubly_uppers a.dual)) (lesser us (doubly_uppers a.dual)) (lesser-le vs us (doubly_uppers a.dual) (at_most us vs h))) is

-- an entry with a weight whose dual rests on another has its length and its distance
pub local-back : (e f : Entry) (a : AcceptedValue) → IsEntry e → Weighted e → a.dual.entry ≡ e → Contains (dual_premises a.dual) f
    → Contains (all_weights f) e
local-back e f a entry weighted same rests = All-contains IsBack (dual_premises a.dual) f (All-map IsBack at (positive a.dual.y) (λ k o l. back (get_or (positive a.dual.y) k o))) rests
  where
    IsBack : Entry → Type 0
    IsBack g = Contains (all_weights g) e

    at : ℕ × ℤ → Entry
    at p = constant_weight a.dual.entry.n (even_from a.dual.entry.d) (as_distance a.dual.entry.w p.0)

    back : (p : ℕ × ℤ) → IsBack (at p)
    back p =
        let limits = entry_limits e entry in
        let w = weighted.0 in
        let fits : WeightFits e (Some w) = subst (WeightFits e) weighted.1 limits.weight in
        let even = fits.0 in
        let within = fits.2 in
        let length_is : a.dual.entry.n ≡ e.n = ap (λ (g : Entry). g.n) same in
        let distance_was : a.dual.entry.d ≡ e.d = ap (λ (g : Entry). g.d) same in
        let distance_is : even_from a.dual.entry.d ≡ e.d = omega arith in
        subst (Contains (all_weights (at p))) (λ i. record { n = length_is i; d = distance_is i; w = sym weighted.1 i })
        (Contains-map (λ v. of_weight (at p) v) (range_with_len 0 ((at p).n + 1)) w (Contains-range_with_len 0 ((at p).n + 1) w (omega arith) (omega arith)))

pub local_above-lawful : (c : Option Support) → IsLawful c (local_above c)
local_above-lawful c = record {
  sound = λ e vs x stand entry condition known is.
      sound e vs x stand (a_weight e (and_parts (has_weight e) (is_some (local_at c e)) condition).0) (local_at c e) refl known is;
  monotone = λ e us vs x h is. local-monotone (local_at c e) us vs x h is;
  few = λ e stand entry. few e stand (local_at c e) refl;
}
  where
    sound : (e : Entry) (vs : List ℕ) (x : ℕ) → ForSome c Stands → Weighted e → (o : Option AcceptedValue) → local_at c e ≡ o
        → AreTrueAt (slots_on Upper (premises_of_dual o)) vs → option_map (λ (a : AcceptedValue). local_value a vs) o ≡ Some x → IsTrueNumber Upper e x
    sound e vs x stand weight None at known is = absurd (none-some x is)
    sound e vs x stand weight (Some a) at known is =
        let has = local_there c e a at in
        let accepted : IsAccepted a = stand (Local a) has.support in
        same_number Upper e (local_value a vs) x is (record {
          some = accepted-some_local a accepted (lesser vs (doubly_uppers a.dual));
          truth = subst (λ (f : Entry). IsTrueUpper f (local_value a vs)) has.entry
              (local_value-true a weight.0 vs accepted (ap (λ (g : Entry). g.w) has.entry ∙ weight.1) (true_uppers (dual_premises a.dual) vs known));
        })

    few : (e : Entry) → ForSome c Stands → (o : Option AcceptedValue) → local_at c e ≡ o → length (premises_of_dual o) ≤ MAX_N
    few e stand None at = omega arith
    few e stand (Some a) at =
        let accepted : IsAccepted a = stand (Local a) (local_there c e a at).support in
        premises_few a.dual accepted.form

pub local_above-back : (c : Option Support) → LeadsBack (local_above c) all_weights
local_above-back c e f defined rests =
    go e f (defined_entry (local_above c) e defined)
    (a_weight e (and_parts (has_weight e) (is_some (local_at c e)) (defined_condition (local_above c) e defined)).0) (local_at c e) refl rests
  where
    go : (e f : Entry) → IsEntry e → Weighted e → (o : Option AcceptedValue) → local_at c e ≡ o → Contains (premises_of_dual o) f
        → Contains (all_weights f) e
    go e f entry weight None at rests = no_item (Contains (all_weights f) e) f rests
    go e f entry weight (Some a) at rests = local-back e f a entry weight (local_there c e a at).entry rests
