-- A primal without a fault is sound, and no accepted dual lies below its value.
use Rattle.std.proofs.Common.{◌≡◌, ℕ, zero, suc, ◌+◌, ◌-◌, ◌*◌, ◌/◌, ◌%◌, ◌≤◌, Bool, true, false, cond, not, ◌&&◌, ◌||◌, ◌==◌, nat_le, List, [], ◌∷◌, length, get_or, refl, sym, ap, ap₂, ◌∙◌, subst, arith, leb-true, le-leb}
use Rattle.std.specs.Prelude.{ℤ, pos, ◌+ℤ◌, ◌*ℤ◌, ◌≤ℤ◌, int_lt, IsTrue, Some, None}
use Rattle.std.specs.List.{AllByRecursion}
use Rattle.std.proofs.lemmas.Int.{ints}
use Rattle.std.proofs.lemmas.Bool.{and_parts}
use Rattle.std.proofs.lemmas.Option.{none-some}
use Rattle.std.proofs.lemmas.List.Elements.{recursion_from_All}
use Rattle.ct_words.specs.Counting.Sums.{total}
use Rattle.ct_words.specs.Counting.Alternating.{total_below}
use Rattle.ct_words.proofs.Counting.Totals.{total-congruence_within}
use Rattle.ct_words.specs.Pairs.{first_of}
use Rattle.ct_words.specs.Numbers.{multiplier, combination}
use Rattle.ct_duals.specs.declared.dual.Dual.{Dual}
use Rattle.ct_duals.specs.Dual.{as_index, degree_of, Fits, IsDual, allowed, is_in_range}
use Rattle.ct_duals.specs.Check.{first_below, dual_fault}
use Rattle.ct_duals.specs.Bound.{natural, positive, charges, near_charge, far_charge, dual_bound}
use Rattle.ct_duals.proofs.First.{none_below}
use Rattle.ct_duals.proofs.Faults.{below-from_none}
use Rattle.ct_duals.proofs.Sound.{AreLaws}
use Rattle.ct_duals.proofs.DualBound.{lead-least}
use Rattle.ct_duals.proofs.Allowed.{natural-is}
use Rattle.ct_primal.specs.declared.primal_fault.PrimalFault.TheVariants.{Scale, Below}
use Rattle.ct_primal.specs.Primal.{PrimalValue, IsPrimal, IsSound, whole, transformed, row_fault, primal_fault, primal_value}
use Rattle.ct_primal.proofs.WeakDuality.{with_scale, weak_duality, quotients-le}

-- where there is no fault, the primal is sound
pub sound-from_none : (number : ℕ → ℕ → ℤ) (p : PrimalValue) → primal_fault number p ≡ None → IsSound number p
unfolding primal_fault
sound-from_none number p none = go (int_lt p.q (pos 1)) refl none
  where
    row : (k : ℕ) → 1 ≤ k → (b : Bool) → int_lt (transformed number p k) (pos 0) ≡ b → cond (nat_le 1 k && b) (Some (Below k (transformed number p k))) None ≡ None
        → pos 0 ≤ℤ transformed number p k
    row k some true is h =
        let one = le-leb 1 k some in
        absurd (none-some (Below k (transformed number p k)) (sym (ap (λ t. cond (t && true) (Some (Below k (transformed number p k))) None) (sym one) ∙ h)))
    row k some false is h = grind (arith, ints)

    go : (b : Bool) → int_lt p.q (pos 1) ≡ b → first_of (cond b (Some Scale) None) (first_below (row_fault number p) (suc (degree_of p.entry))) ≡ None → IsSound number p
    go true is h = absurd (none-some Scale (sym h))
    go false is h = record {
      scale = grind (arith, ints);
      rows = λ k some within. row k some (int_lt (transformed number p k) (pos 0)) refl (none_below (row_fault number p) (suc (degree_of p.entry)) h k (omega arith));
    }

-- and where the primal is sound, there is none
pub none-from_sound : (number : ℕ → ℕ → ℤ) (p : PrimalValue) → IsSound number p → primal_fault number p ≡ None
unfolding primal_fault
none-from_sound number p sound =
    ap (λ b. first_of (cond b (Some Scale) None) (first_below (row_fault number p) (suc (degree_of p.entry)))) (some_scale p.q sound.scale)
    ∙ none (suc (degree_of p.entry)) (omega arith)
  where
    some_scale : (z : ℤ) → pos 1 ≤ℤ z → int_lt z (pos 1) ≡ false
    some_scale z h = grind (arith, ints)

    not_below : (z : ℤ) → pos 0 ≤ℤ z → int_lt z (pos 0) ≡ false
    not_below z h = grind (arith, ints)

    row : (k : ℕ) → k ≤ degree_of p.entry → row_fault number p k ≡ None
    row zero l = refl
    row (suc k) l =
        ap₂ (λ a b. cond (a && b) (Some (Below (suc k) (transformed number p (suc k)))) None) (le-leb 1 (suc k) (omega arith))
        (not_below (transformed number p (suc k)) (sound.rows (suc k) (omega arith) l))

    none : (m : ℕ) → m ≤ suc (degree_of p.entry) → first_below (row_fault number p) m ≡ None
    none zero l = refl
    none (suc m) l = ap (λ o. first_of o (row_fault number p m)) (none m (omega arith)) ∙ row m (omega arith)

-- numbers that are not negative add up to at least 0
total-nonneg_within : (a : List (ℕ × ℤ)) → AllByRecursion (λ u. pos 0 ≤ℤ u.1) a → pos 0 ≤ℤ total (λ u. u.1) a
total-nonneg_within [] h = omega (arith, ints)
total-nonneg_within (u ∷ a) h =
    let ih = total-nonneg_within a h.1 in
    let first = h.0 in
    omega (arith, ints)

-- the range ends at the degree
in_degree : (p : PrimalValue) (i : ℕ) → IsTrue (is_in_range p.entry p.even i) → i ≤ degree_of p.entry
in_degree p i range =
    let parts = and_parts (nat_le (as_index p.entry.w p.entry.d) i && nat_le i (degree_of p.entry)) (not p.even || i % 2 == 0) range in
    let ends = and_parts (nat_le (as_index p.entry.w p.entry.d) i) (nat_le i (degree_of p.entry)) parts.0 in
    leb-true i (degree_of p.entry) ends.1

-- no accepted dual of the same entry and mark that allows nothing has a bound below the value of a sound primal
pub primal-least : (belongs : ℕ → Type 0) (index : ℕ → ℕ → ℕ) (degree : ℕ) (number : ℕ → ℕ → ℤ) (p : PrimalValue) → AreLaws belongs index degree number
    → Fits belongs index degree number p.entry → IsPrimal p → IsSound number p → (d : Dual) → IsDual d → d.entry ≡ p.entry → d.even ≡ p.even → d.y ≡ []
    → dual_fault number d ≡ None → primal_value p ≤ dual_bound d (combination number d.c 0) []
unfolding primal_value dual_bound
primal-least belongs index degree number p laws fits form sound d dual entry even nothing none =
    let a = p.a in
    let pairs = with_scale p.q a in
    let kept = below-from_none number d none in
    let lead = kept.0 in
    let least = lead-least belongs index degree number d laws (subst (λ e. Fits belongs index degree number e) (sym entry) fits) dual in
    let m = length d.c - 1 in
    let rows_are : suc m ≡ length d.c = omega (arith, dual.some) in
    let last : m ≤ degree_of p.entry = let few = subst (λ e. length d.c ≤ suc (degree_of e)) entry dual.few in omega (arith, few, rows_are) in
    let degree_is = fits.same_degree in
    let some : (k : ℕ) → k ≤ m → pos 0 ≤ℤ multiplier d.c k = λ k l. dual.multipliers k (pos 0) (omega (arith, rows_are)) in
    let one : (q : ℤ) (i : ℕ) → i ≤ degree_of p.entry → q *ℤ number 0 i ≡ q =
    λ q i l. ap (λ z. q *ℤ z) (laws.ones i (omega (arith, degree_is))) ∙ times_one q in
    let ones : AllByRecursion (λ u. u.1 *ℤ number 0 u.0 ≡ u.1) pairs =
    (one p.q 0 (omega arith), recursion_from_All (λ u. u.1 *ℤ number 0 u.0 ≡ u.1) a (λ k o l. one _ _ (in_degree p _ (form.numbers k o l).0))) in
    let whole_nonneg : pos 0 ≤ℤ total (λ u. u.1) a = total-nonneg_within a (recursion_from_All (λ u. pos 0 ≤ℤ u.1) a (λ k o l. (form.numbers k o l).1)) in
    let scale = sound.scale in
    let first : total (λ u. u.1 *ℤ number 0 u.0) pairs ≡ whole p = total-congruence_within (λ u. u.1 *ℤ number 0 u.0) (λ u. u.1) pairs ones in
    let rows : (k : ℕ) → k ≤ m → pos 0 ≤ℤ total (λ u. u.1 *ℤ number k u.0) pairs = row first last in
    let f : ℕ → ℤ = λ i. total_below (λ k. multiplier d.c k *ℤ number k i) (suc m) in
    let f_is : (i : ℕ) → f i ≡ combination number d.c i = λ i. ap (total_below (λ k. multiplier d.c k *ℤ number k i)) rows_are in
    let below : AllByRecursion (λ u. (pos 0 ≤ℤ u.1) × (f u.0 ≤ℤ pos 0)) a =
    recursion_from_All (λ u. (pos 0 ≤ℤ u.1) × (f u.0 ≤ℤ pos 0)) a (λ k o l.
    let h = form.numbers k o l in
    let i = (get_or a k o).0 in
    let range = subst (λ e. IsTrue (is_in_range e d.even i)) (sym entry) (subst (λ b. IsTrue (is_in_range p.entry b i)) (sym even) h.0) in
    let limit = ap (λ y. allowed y i) nothing in
    (h.1, subst (λ z. z ≤ℤ pos 0) (sym (f_is i)) (subst (λ z. combination number d.c i ≤ℤ z) limit (kept.1 i range)))) in
    let dual_pairs = weak_duality (multiplier d.c) number m p.q a some rows ones below in
    let q = natural p.q in
    let c = natural (multiplier d.c 0) in
    let w = natural (whole p) in
    let z = natural (combination number d.c 0) in
    let q_is : p.q ≡ pos q = natural-is p.q (omega (arith, ints)) in
    let c_is : multiplier d.c 0 ≡ pos c = natural-is (multiplier d.c 0) (omega (arith, ints)) in
    let w_is : whole p ≡ pos w = natural-is (whole p) (omega (arith, ints)) in
    let z_is : combination number d.c 0 ≡ pos z = natural-is (combination number d.c 0) (omega (arith, ints)) in
    let left = ap₂ (λ x y. x *ℤ y) c_is w_is in
    let right = ap₂ (λ x y. x *ℤ y) q_is (f_is 0 ∙ z_is) in
    let products : c * w ≤ q * z = omega (arith, ints, dual_pairs, left, right) in
    let quotient = quotients-le w z c q (omega (arith, ints)) (omega (arith, ints)) products in
    let charge : near_charge d.entry (charges (positive d.y) []) + far_charge d.entry (charges (positive d.y) []) ≡ 0 =
    ap (λ y. near_charge d.entry (charges (positive y) []) + far_charge d.entry (charges (positive y) [])) nothing in
    let alone : pos z +ℤ pos 0 ≡ pos z = omega (arith, ints) in
    let sum : natural (combination number d.c 0 +ℤ pos (near_charge d.entry (charges (positive d.y) []) + far_charge d.entry (charges (positive d.y) []))) ≡ z =
    ap₂ (λ x r. natural (x +ℤ pos r)) z_is charge ∙ ap natural alone in
    let value = ap (λ x. x / c) sum in
    omega (arith, quotient, value)
  where
    times_one : (q : ℤ) → q *ℤ pos 1 ≡ q
    times_one q = omega (arith, ints)

    row : total (λ u. u.1 *ℤ number 0 u.0) (with_scale p.q p.a) ≡ whole p → length d.c - 1 ≤ degree_of p.entry → (k : ℕ) → k ≤ length d.c - 1
        → pos 0 ≤ℤ total (λ u. u.1 *ℤ number k u.0) (with_scale p.q p.a)
    row first last zero l =
        let some = total-nonneg_within p.a (recursion_from_All (λ u. pos 0 ≤ℤ u.1) p.a (λ k o m. (form.numbers k o m).1)) in
        let scale = sound.scale in
        omega (arith, ints, first, some, scale)
    row first last (suc k) l = sound.rows (suc k) (omega arith) (omega (arith, last))
