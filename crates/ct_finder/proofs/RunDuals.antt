-- The dual of a run that ends as least is accepted.
use Rattle.ct_finder.specs.Inside.Rows.{rows_to, multipliers_of}
use Rattle.std.proofs.Common.{◌≡◌, ℕ, zero, suc, ◌+◌, ◌%◌, ◌/◌, ◌<◌, ◌≤◌, ◌==◌, Bool, true, false, ◌&&◌, ◌||◌, not, cond, List, [], ◌∷◌, map, length, min, refl, ap, ◌∙◌, arith, leb-true, eqb-true}
use Rattle.std.specs.Prelude.{All, ◌^◌, ℤ, pos, neg_ℤ, ◌+ℤ◌, ◌*ℤ◌, ◌≤ℤ◌, ◌<ℤ◌, int_lt, Option, Some, None, filter, nat_le}
use Rattle.std.specs.List.{list_any, range_with_len}
use Rattle.std.proofs.lemmas.Int.{ints}
use Rattle.std.proofs.lemmas.Bool.{and_parts, eqb-false}
use Rattle.std.proofs.lemmas.List.Elements.{All-cons, All-map}
use Rattle.std.proofs.lemmas.List.FromFn.{length-map-range_with_len, get_or-map-range_with_len}
use Rattle.ct_words.specs.Counting.Alternating.{total_below}
use Rattle.ct_words.proofs.Counting.Products.{int_mul_neg}
use Rattle.ct_words.proofs.Counting.Convolutions.{total_below-congruence, total_below-first}
use Rattle.ct_words.specs.declared.limits.TheConstants.{MAX_BOUND}
use Rattle.ct_words.specs.declared.entry.Entry.{Entry}
use Rattle.ct_words.specs.Pairs.{first_of}
use Rattle.ct_duals.specs.declared.dual.Dual.{Dual}
use Rattle.ct_duals.specs.declared.fault.DualFault.{DualFault}
use Rattle.ct_duals.specs.declared.fault.DualFault.TheVariants.{Lead, Above}
use Rattle.ct_words.specs.Numbers.{multiplier, combination}
use Rattle.ct_duals.specs.Dual.{IsDual, as_index, degree_of, allowed, is_in_range}
use Rattle.ct_duals.specs.Check.{first_below, fault_at, above_fault, dual_fault}
use Rattle.ct_duals.specs.Bound.{natural, dual_bound}
use Rattle.ct_finder.specs.Column.{Column, Tableau, range_of, columns, opening_entry, cost_entry, opening}
use Rattle.ct_finder.specs.Column.Column.{Z, A, S, Constant}
use Rattle.ct_finder.specs.Run.{run_of, coefficient, run_dual, IsAsked}
use Rattle.ct_finder.specs.Run.End.{Least}
use Rattle.ct_finder.specs.Sum.{IsSum, opening_row}
use Rattle.ct_finder.proofs.Entries.{coefficient-map, has-a, has-constant}
use Rattle.ct_finder.proofs.Sums.{All-range}
use Rattle.ct_finder.proofs.TurnedTableaus.{kept-opening}
use Rattle.ct_finder.proofs.NarrowCosts.{IsNarrow, coefficient-below, narrow-at, narrow-cost}
use Rattle.ct_finder.proofs.Ends.{IsLeastAt, least-at, choices-nonneg}

-- f of the multipliers of a cost row
pub combination-run : (number : ℕ → ℕ → ℤ) (cs : List Column) (degree : ℕ) (cost : List ℤ) (i : ℕ)
    → combination number (multipliers_of cs degree cost) i
    ≡ (coefficient cs cost Z *ℤ number 0 i) +ℤ total_below (λ k. coefficient cs cost (S (suc k)) *ℤ number (suc k) i) degree
combination-run number cs degree cost i =
    let c = multipliers_of cs degree cost in
    let f : ℕ → ℤ = λ (k : ℕ). multiplier c k *ℤ number k i in
    let count : length c ≡ suc degree = ap suc (length-map-range_with_len (λ k. coefficient cs cost (S k)) 1 degree) in
    ap (total_below f) count ∙ total_below-first f degree
    ∙ ap (λ z. (coefficient cs cost Z *ℤ number 0 i) +ℤ z)
    (total_below-congruence (λ k. f (suc k)) (λ k. coefficient cs cost (S (suc k)) *ℤ number (suc k) i) degree
    (λ k l. ap (λ z. z *ℤ number (suc k) i)
    (get_or-map-range_with_len (λ m. coefficient cs cost (S m)) 1 degree k (suc k) (pos 0) l (omega arith))))

-- a sum of negated products
total-negated : (x y : ℕ → ℤ) (n : ℕ) → total_below (λ k. x k *ℤ neg_ℤ (y k)) n ≡ neg_ℤ (total_below (λ k. x k *ℤ y k) n)
total-negated x y zero = refl
total-negated x y (suc n) =
    let rest = total-negated x y n in
    let last = int_mul_neg (x n) (y n) in
    omega (arith, ints)

-- the entry at the a of an index is -f there
pub combination-at : (number : ℕ → ℕ → ℤ) (range : List ℕ) (degree : ℕ) (cost : List ℤ) (i : ℕ) → list_any (λ j. j == i) range ≡ true → number 0 i ≡ pos 1
    → IsSum number (columns range degree) degree cost
    → combination number (multipliers_of (columns range degree) degree cost) i ≡ neg_ℤ (coefficient (columns range degree) cost (A i))
combination-at number range degree cost i member one sum =
    let cs = columns range degree in
    let here = has-a range degree i member in
    let x : ℕ → ℤ = λ (k : ℕ). coefficient cs cost (S (suc k)) in
    let whole = combination-run number cs degree cost i in
    let cost_is = ap (λ z. coefficient cs cost Z *ℤ z) (coefficient-map cost_entry cs (A i) here) in
    let rows_are = total_below-congruence (λ k. x k *ℤ coefficient cs (opening_row number cs (suc k)) (A i)) (λ k. x k *ℤ neg_ℤ (number (suc k) i)) degree
    (λ k l. ap (λ z. x k *ℤ z) (coefficient-map (opening_entry number (suc k)) cs (A i) here)) in
    let negated = total-negated x (λ k. number (suc k) i) degree in
    let lead = ap (λ z. coefficient cs cost Z *ℤ z) one in
    let sum_is = sum (A i) in
    omega (arith, ints)

-- and f(0) is the entry at z and the constant
pub combination-zero : (number : ℕ → ℕ → ℤ) (range : List ℕ) (degree : ℕ) (cost : List ℤ) → number 0 0 ≡ pos 1
    → IsSum number (columns range degree) degree cost
    → combination number (multipliers_of (columns range degree) degree cost) 0
    ≡ coefficient (columns range degree) cost Z +ℤ coefficient (columns range degree) cost Constant
combination-zero number range degree cost one sum =
    let cs = columns range degree in
    let here = has-constant range degree in
    let x : ℕ → ℤ = λ (k : ℕ). coefficient cs cost (S (suc k)) in
    let whole = combination-run number cs degree cost 0 in
    let cost_is = ap (λ z. coefficient cs cost Z *ℤ z) (coefficient-map cost_entry cs Constant here) in
    let rows_are = total_below-congruence (λ k. x k *ℤ coefficient cs (opening_row number cs (suc k)) Constant) (λ k. x k *ℤ number (suc k) 0) degree
    (λ k l. ap (λ z. x k *ℤ z) (coefficient-map (opening_entry number (suc k)) cs Constant here)) in
    let lead = ap (λ z. coefficient cs cost Z *ℤ z) one in
    let sum_is = sum Constant in
    omega (arith, ints)

-- an index of the range is among the columns
among-filtered : (p : ℕ → Bool) (i a n : ℕ) → p i ≡ true → a ≤ i → i < a + n → list_any (λ j. j == i) (filter p (range_with_len a n)) ≡ true
among-filtered p i a zero passes low high = absurd (omega arith)
among-filtered p i a (suc n) passes low high = go (a == i) refl (p a) refl (among-filtered p i (a + 1) n passes)
  where
    rest : List ℕ
    rest = filter p (range_with_len (a + 1) n)

    go : (t : Bool) → (a == i) ≡ t → (b : Bool) → p a ≡ b → (a + 1 ≤ i → i < a + 1 + n → list_any (λ j. j == i) rest ≡ true)
        → list_any (λ j. j == i) (cond b (a ∷ rest) rest) ≡ true
    go true is true first ih = ap (λ t. t || list_any (λ j. j == i) rest) is
    go true is false first ih = absurd (let same = eqb-true a i is in let e = ap p same in cc)
    go false is true first ih =
        let later = ih (omega (arith, eqb-false a i is)) (omega arith) in
        ap (λ t. t || list_any (λ j. j == i) rest) is ∙ later
    go false is false first ih = ih (omega (arith, eqb-false a i is)) (omega arith)

pub among-range : (e : Entry) (even : Bool) (i : ℕ) → is_in_range e even i ≡ true → list_any (λ j. j == i) (range_of e even) ≡ true
among-range e even i passes =
    let parts = and_parts (nat_le (as_index e.w e.d) i && nat_le i (degree_of e)) (not even || i % 2 == 0) passes in
    let ends = and_parts (nat_le (as_index e.w e.d) i) (nat_le i (degree_of e)) parts.0 in
    let last = leb-true i (degree_of e) ends.1 in
    among-filtered (is_in_range e even) i 0 (suc (degree_of e)) passes (omega arith) (omega arith)

-- a dual without allowances is accepted where c_0 is at least 1 and f at most 0 at each index of the range
first_below-none : {X : Type 0} (f : ℕ → Option X) (m : ℕ) → ((k : ℕ) → f k ≡ None) → first_below f m ≡ None
first_below-none f zero h = refl
first_below-none f (suc m) h = ap (λ o. first_of o (f m)) (first_below-none f m h) ∙ h m

pub accepted-from : (number : ℕ → ℕ → ℤ) (d : Dual) → d.y ≡ [] → pos 1 ≤ℤ multiplier d.c 0
    → ((i : ℕ) → is_in_range d.entry d.even i ≡ true → combination number d.c i ≤ℤ pos 0) → dual_fault number d ≡ None
unfolding dual_fault
accepted-from number d no_allowance lead below =
    ap (λ o. first_of o (above_fault number d)) (no_lead (multiplier d.c 0) lead) ∙ first_below-none (fault_at number d) (suc (degree_of d.entry)) none_at
  where
    no_lead : (z : ℤ) → pos 1 ≤ℤ z → cond (int_lt z (pos 1)) (Some Lead) None ≡ None
    no_lead z h = let e : int_lt z (pos 1) ≡ false = grind (arith, ints) in ap (λ b. cond b (Some Lead) None) e

    not_above : (z : ℤ) → z ≤ℤ pos 0 → int_lt (pos 0) z ≡ false
    not_above z h = grind (arith, ints)

    none_at : (k : ℕ) → fault_at number d k ≡ None
    none_at k = go (is_in_range d.entry d.even k) refl
      where
        fault : Option DualFault
        fault = Some (Above k (combination number d.c k) (allowed d.y k))

        go : (t : Bool) → is_in_range d.entry d.even k ≡ t → cond (t && int_lt (allowed d.y k) (combination number d.c k)) fault None ≡ None
        go false is = refl
        go true is =
            ap (λ b. cond b fault None)
            (ap (λ y. int_lt (allowed y k) (combination number d.c k)) no_allowance ∙ not_above (combination number d.c k) (below k is))

-- the dual of a cost row that no column enters
pub dual-form : (number : ℕ → ℕ → ℤ) (e : Entry) (even : Bool) (last : Tableau) → IsAsked e even
    → IsLeastAt number (columns (range_of e even) (degree_of e)) (degree_of e) last → All IsNarrow last.cost → IsDual (run_dual e even last.cost)
dual-form number e even last asked least narrow =
    let cs = (columns (range_of e even) (degree_of e)) in
    let cost = last.cost in
    let count = length-map-range_with_len (λ k. coefficient cs cost (S k)) 1 (degree_of e) in
    let lead : pos 1 ≤ℤ coefficient cs cost Z = least.kept.sums.some_of_cost in
    let AtLeast : ℤ → Type 0 = λ (z : ℤ). pos 0 ≤ℤ z in
    let Below : ℤ → Type 0 = λ (z : ℤ). z <ℤ pos (2 ^ 63) in
    record {
      entry = asked.entry;
      even_distance = asked.even_distance;
      weighted = asked.weighted;
      some = omega arith;
      few = omega arith;
      multipliers = All-cons AtLeast (coefficient cs cost Z) (map (λ k. coefficient cs cost (S k)) (rows_to (degree_of e))) (omega (arith, ints))
          (All-map AtLeast (λ k. coefficient cs cost (S k)) (rows_to (degree_of e))
          (All-range (λ k. pos 0 ≤ℤ coefficient cs cost (S k)) 1 (degree_of e) (λ k low high. choices-nonneg cs cost least.none (S k) refl)));
      ascending = λ i j d l m. absurd (omega arith);
      allowances = λ k d l. absurd (omega arith);
      signed = (
        All-cons Below (coefficient cs cost Z) (map (λ k. coefficient cs cost (S k)) (rows_to (degree_of e))) (coefficient-below cs cost Z narrow)
            (All-map Below (λ k. coefficient cs cost (S k)) (rows_to (degree_of e)) (λ k d l. coefficient-below cs cost (S _) narrow)),
        (λ k d l. absurd (omega arith)),
      );
    }

pub dual-accepted : (number : ℕ → ℕ → ℤ) (e : Entry) (even : Bool) (last : Tableau) → ((i : ℕ) → number 0 i ≡ pos 1)
    → IsLeastAt number (columns (range_of e even) (degree_of e)) (degree_of e) last → dual_fault number (run_dual e even last.cost) ≡ None
dual-accepted number e even last ones least =
    let cs = (columns (range_of e even) (degree_of e)) in
    let cost = last.cost in
    let sum = least.kept.sums.cost in
    accepted-from number (run_dual e even cost) refl least.kept.sums.some_of_cost
    (λ i passes.
    let at_a = combination-at number (range_of e even) (degree_of e) cost i (among-range e even i passes) (ones i) sum in
    let nonneg = choices-nonneg cs cost least.none (A i) refl in
    omega (arith, ints))

-- its bound, and the same from the cost row
pub bound-without : (d : Dual) (at_zero : ℤ) → d.y ≡ [] → dual_bound d at_zero [] ≡ min MAX_BOUND (natural at_zero / natural (multiplier d.c 0))
unfolding dual_bound
bound-without d at_zero none = go d.y none
  where
    zero_more : (z : ℤ) → z +ℤ pos 0 ≡ z
    zero_more z = omega (arith, ints)

    go : (y : List (ℕ × ℤ)) → y ≡ [] → dual_bound (record d { y = y }) at_zero [] ≡ min MAX_BOUND (natural at_zero / natural (multiplier d.c 0))
    go [] e = ap (λ z. min MAX_BOUND (natural z / natural (multiplier d.c 0))) (zero_more at_zero)
    go (p ∷ y) e = absurd cc

pub least-of : (number : ℕ → ℕ → ℤ) (e : Entry) (even : Bool) (pivots : ℕ) (last : Tableau) → run_of number e even pivots ≡ Least last
    → IsLeastAt number (columns (range_of e even) (degree_of e)) (degree_of e) last
least-of number e even pivots last is =
    least-at number (columns (range_of e even) (degree_of e)) (degree_of e) pivots (opening number (range_of e even) (degree_of e)) last (kept-opening number (range_of e even) (degree_of e)) is

pub narrow-of : (number : ℕ → ℕ → ℤ) (e : Entry) (even : Bool) (pivots : ℕ) (last : Tableau) → run_of number e even pivots ≡ Least last → All IsNarrow last.cost
narrow-of number e even pivots last is =
    narrow-at (columns (range_of e even) (degree_of e)) pivots (opening number (range_of e even) (degree_of e)) last (narrow-cost (range_of e even) (degree_of e)) is
