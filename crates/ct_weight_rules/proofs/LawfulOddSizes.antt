-- Sizes that parity excludes: U12.
use Rattle.std.proofs.Common.{◌≡◌, ℕ, ◌-◌, ◌%◌, ◌≤◌, List, length, take, Bool, true, cond, Contains, refl, ap, subst, ◌∙◌, arith, leb-true, inl, inr}
use Rattle.std.specs.Prelude.{ℤ, pos, ◌*ℤ◌, ◌≤ℤ◌, ◌<ℤ◌, int_lt, nat_le, not, is_some, ◌&&◌, ◌==◌, Option, Some, None, option_map}
use Rattle.std.specs.Option.{ForSome}
use Rattle.std.proofs.lemmas.Bool.{and_parts, cases_lt}
use Rattle.std.proofs.lemmas.Int.{ints}
use Rattle.std.proofs.lemmas.List.{length-take-le}
use Rattle.std.proofs.lemmas.Option.{none-some, cond_some}
use Rattle.ct_words.specs.declared.limits.TheConstants.{MAX_N}
use Rattle.ct_words.specs.Word.{distance}
use Rattle.ct_words.specs.Counting.PairTotals.{pair_total}
use Rattle.ct_words.proofs.Counting.Combinations.{product-le}
use Rattle.ct_words.specs.declared.claim.Side.TheVariants.{Upper}
use Rattle.ct_words.specs.declared.entry.Entry.{Entry}
use Rattle.ct_words.specs.Code.{IsCodeOf, IsTrueUpper}
use Rattle.ct_words.specs.Numbers.{krawtchouk, number_at, numbers_of, combination}
use Rattle.ct_words.proofs.Constructions.FrontLemmas.{IsCode-take}
use Rattle.ct_duals.specs.declared.dual.Dual.{Dual}
use Rattle.ct_duals.specs.Dual.{as_index, IsDual}
use Rattle.ct_duals.specs.Bound.{AcceptedValue, IsAccepted, AreTrueUppers, AreAtMost, dual_premises, dual_spread}
use Rattle.ct_duals.specs.Check.{dual_fault}
use Rattle.ct_duals.proofs.Faults.{accepted-from_none}
use Rattle.ct_duals.proofs.Monotone.{dual_spread-monotone}
use Rattle.ct_duals.proofs.Premises.{premises_few}
use Rattle.ct_duals.proofs.SoundDuals.{accepted-spread}
use Rattle.ct_parity.specs.OddSum.{odd_sum}
use Rattle.ct_parity.specs.declared.sums.TheConstants.{MAX_ODD}
use Rattle.ct_parity.proofs.OddLists.{odd_sum-le}
use Rattle.ct_rule_parts.specs.declared.support.Support.{Support}
use Rattle.ct_rule_parts.specs.declared.support.Support.TheVariants.{Odd}
use Rattle.ct_rule_parts.specs.Parts.{has_weight, slots_on}
use Rattle.ct_rule_parts.specs.Slot.{AreNoBetter}
use Rattle.ct_rule_parts.specs.Support.{OddValue, Stands, odd_at}
use Rattle.ct_rule_parts.proofs.DualLemmas.{odd_there}
use Rattle.ct_rule_parts.proofs.Lawful.{IsLawful, LeadsBack, IsTrueNumber, AreTrueAt, NoWorse, same_number, defined_condition}
use Rattle.ct_rule_parts.proofs.PlainEntries.{Weightless, no_weight, no_item}
use Rattle.ct_weight_rules.specs.Inside.RestedOn.{by_even_distance}
use Rattle.ct_weight_rules.specs.Delsarte.{premises_of_dual}
use Rattle.ct_weight_rules.specs.OddSizes.{is_odd_size, is_above_spread, size_below, odd_size_above}
use Rattle.ct_weight_rules.proofs.LawfulDelsarte.{true_uppers, at_most, dual-back}

-- a code of just so many words, an odd number, adds up to no more than m times the spread, and to no less than any so many words
within_spread : (a : AcceptedValue) (m : ℕ) (us words : List ℕ) → IsAccepted a → Weightless a.dual.entry → AreTrueUppers (dual_premises a.dual) us
    → m % 2 ≡ 1 → IsCodeOf a.dual.entry words → length words ≡ m → odd_sum a.dual.entry.n m a.dual.c ≤ℤ (pos m *ℤ dual_spread a.dual a.at_zero us)
within_spread a m us words h none known odd code size =
    let e = a.dual.entry in
    let c = a.dual.c in
    let spread = accepted-spread a h us known words code in
    let others = spread.0 in
    let many : length others ≡ m = spread.1 ∙ size in
    let at_most_spread : pair_total (λ x y. combination (krawtchouk e.n) c (distance e.n x y)) others ≤ℤ (pos (length words) *ℤ dual_spread a.dual a.at_zero us) =
    subst (λ (w : Option ℕ). pair_total (λ x y. combination (number_at e.n w) c (as_index w (distance e.n x y))) others ≤ℤ (pos (length words) *ℤ dual_spread a.dual a.at_zero us))
    none spread.3 in
    let at_least = odd_sum-le e.n c others (λ k l. h.form.multipliers k (pos 0) l) (ap (λ (k : ℕ). k % 2) many ∙ odd) in
    let least = subst (λ (k : ℕ). odd_sum e.n k c ≤ℤ pair_total (λ x y. combination (krawtchouk e.n) c (distance e.n x y)) others) many at_least in
    let most = subst (λ (k : ℕ). pair_total (λ x y. combination (krawtchouk e.n) c (distance e.n x y)) others ≤ℤ (pos k *ℤ dual_spread a.dual a.at_zero us)) size at_most_spread in
    between (odd_sum e.n m c) (pair_total (λ x y. combination (krawtchouk e.n) c (distance e.n x y)) others) (pos m *ℤ dual_spread a.dual a.at_zero us) least most
  where
    between : (x y z : ℤ) → x ≤ℤ y → y ≤ℤ z → x ≤ℤ z
    between x y z first second = omega (arith, ints)

-- so where that can't be, no code has m words or more: its first m words would be one
pub excluded-true : (a : AcceptedValue) (m : ℕ) (us : List ℕ) → IsAccepted a → Weightless a.dual.entry → AreTrueUppers (dual_premises a.dual) us
    → m % 2 ≡ 1 → (pos m *ℤ dual_spread a.dual a.at_zero us) <ℤ odd_sum a.dual.entry.n m a.dual.c → IsTrueUpper a.dual.entry (m - 1)
excluded-true a m us h none known odd above words code = elim (cases_lt (length words) m) [
  | inl fewer ↦ omega arith
  | inr enough ↦
      let e = a.dual.entry in
      let front = within_spread a m us (take m words) h none known odd (IsCode-take e.n e.d e.w m words code) (length-take-le m words enough) in
      absurd (apart (odd_sum e.n m a.dual.c) (pos m *ℤ dual_spread a.dual a.at_zero us) front above)
]
  where
    apart : (x y : ℤ) → x ≤ℤ y → y <ℤ x → ⊥
    apart x y first second = omega (arith, ints)

-- the same of a dual that the check accepts
pub checked-true : (d : Dual) (m : ℕ) (us : List ℕ) → d.entry.w ≡ None → IsDual d → dual_fault (numbers_of d.entry) d ≡ None
    → AreTrueUppers (dual_premises d) us → m % 2 ≡ 1
    → (pos m *ℤ dual_spread d (combination (numbers_of d.entry) d.c 0) us) <ℤ odd_sum d.entry.n m d.c → IsTrueUpper d.entry (m - 1)
checked-true d m us none form accepted known odd above =
    excluded-true (record { dual = d; at_zero = combination (numbers_of d.entry) d.c 0 }) m us (accepted-from_none d form accepted) none known odd above

-- whether parity excludes codes of so many words
abbrev is_excluded : OddValue → List ℕ → Bool
is_excluded o us = is_odd_size o.m && is_above_spread o.accepted o.m us

-- what is excluded is odd and from 3, and L is above m·E
record Excluded (o : OddValue) (us : List ℕ) : Type 0 where
  from : 3 ≤ o.m
  odd : o.m % 2 ≡ 1
  above : (pos o.m *ℤ dual_spread o.accepted.dual o.accepted.at_zero us) <ℤ odd_sum o.accepted.dual.entry.n o.m o.accepted.dual.c

excluded : (o : OddValue) (us : List ℕ) → is_excluded o us ≡ true → Excluded o us
excluded o us h =
    let parts = and_parts (is_odd_size o.m) (is_above_spread o.accepted o.m us) h in
    let size = and_parts (nat_le 3 o.m && nat_le o.m MAX_ODD) (o.m % 2 == 1) parts.0 in
    let low = leb-true 3 o.m (and_parts (nat_le 3 o.m) (nat_le o.m MAX_ODD) size.0).0 in
    record {
      from = low;
      odd = grind arith;
      above = less (pos o.m *ℤ dual_spread o.accepted.dual o.accepted.at_zero us) (odd_sum o.accepted.dual.entry.n o.m o.accepted.dual.c) parts.1;
    }
  where
    less : (x y : ℤ) → int_lt x y ≡ true → x <ℤ y
    less x y h = grind (arith, ints)

-- a smaller spread excludes what a greater one does
excluded-monotone : (o : OddValue) (us vs : List ℕ) → AreAtMost vs us → is_excluded o us ≡ true → is_excluded o vs ≡ true
excluded-monotone o us vs fewer h =
    let parts = and_parts (is_odd_size o.m) (is_above_spread o.accepted o.m us) h in
    let a = o.accepted in
    let least = dual_spread-monotone a.dual a.at_zero vs us fewer in
    let above = below o.m (dual_spread a.dual a.at_zero vs) (dual_spread a.dual a.at_zero us) (odd_sum a.dual.entry.n o.m a.dual.c) least parts.1 in
    ap (λ (b : Bool). b && is_above_spread o.accepted o.m vs) parts.0 ∙ above
  where
    smaller : (x y z : ℤ) → x ≤ℤ y → int_lt y z ≡ true → int_lt x z ≡ true
    smaller x y z first second = grind (arith, ints)

    below : (m : ℕ) (x y z : ℤ) → x ≤ℤ y → int_lt (pos m *ℤ y) z ≡ true → int_lt (pos m *ℤ x) z ≡ true
    below m x y z first second = smaller (pos m *ℤ x) (pos m *ℤ y) z (product-le (pos m) x y (omega (arith, ints)) first) second

-- better premises give the same number
size-monotone : (o : Option OddValue) (us vs : List ℕ) (x : ℕ) → AreNoBetter Upper us vs → size_below o us ≡ Some x → NoWorse Upper (size_below o vs) x
size-monotone None us vs x h is = absurd (none-some x is)
size-monotone (Some o) us vs x h is =
    let both = cond_some (is_excluded o us) (o.m - 1) x is in
    let still = excluded-monotone o us vs (at_most us vs h) both.0 in
    (o.m - 1, ap (λ (b : Bool). cond b (Some (o.m - 1)) None) still, omega (arith, both.1))

-- the entries that its dual rests on
abbrev premises : Option OddValue → List Entry
premises o = premises_of_dual (option_map (λ p. p.accepted) o)

pub odd_size_above-lawful : (c : Option Support) → IsLawful c (odd_size_above c)
odd_size_above-lawful c = record {
  sound = λ e vs x stand entry condition known is.
      sound e vs x stand (no_weight e (and_parts (not (has_weight e)) (is_some (odd_at c e)) condition).0) (odd_at c e) refl known is;
  monotone = λ e us vs x h is. size-monotone (odd_at c e) us vs x h is;
  few = λ e stand entry. few e stand (odd_at c e) refl;
}
  where
    sound : (e : Entry) (vs : List ℕ) (x : ℕ) → ForSome c Stands → Weightless e → (o : Option OddValue) → odd_at c e ≡ o
        → AreTrueAt (slots_on Upper (premises o)) vs → size_below o vs ≡ Some x → IsTrueNumber Upper e x
    sound e vs x stand light None at known is = absurd (none-some x is)
    sound e vs x stand light (Some o) at known is =
        let a = o.accepted in
        let has = odd_there c e o at in
        let accepted : IsAccepted a = stand (Odd a o.m) has.support in
        let both = cond_some (is_excluded o vs) (o.m - 1) x is in
        let size = excluded o vs both.0 in
        let uppers = true_uppers (dual_premises a.dual) vs known in
        let truth = excluded-true a o.m vs accepted (ap (λ (g : Entry). g.w) has.entry ∙ light) uppers size.odd size.above in
        let from = size.from in
        same_number Upper e (o.m - 1) x (ap Some both.1) (record {
          some = omega arith;
          truth = subst (λ (f : Entry). IsTrueUpper f (o.m - 1)) has.entry truth;
        })

    few : (e : Entry) → ForSome c Stands → (o : Option OddValue) → odd_at c e ≡ o → length (premises o) ≤ MAX_N
    few e stand None at = omega arith
    few e stand (Some o) at =
        let accepted : IsAccepted o.accepted = stand (Odd o.accepted o.m) (odd_there c e o at).support in
        premises_few o.accepted.dual accepted.form

pub odd_size_above-back : (c : Option Support) → LeadsBack (odd_size_above c) by_even_distance
odd_size_above-back c e f defined rests =
    go e f (no_weight e (and_parts (not (has_weight e)) (is_some (odd_at c e)) (defined_condition (odd_size_above c) e defined)).0)
    (odd_at c e) refl rests
  where
    go : (e f : Entry) → Weightless e → (o : Option OddValue) → odd_at c e ≡ o → Contains (premises o) f
        → Contains (by_even_distance f) e
    go e f light None at rests = no_item (Contains (by_even_distance f) e) f rests
    go e f light (Some o) at rests = dual-back e f o.accepted light (odd_there c e o at).entry rests
