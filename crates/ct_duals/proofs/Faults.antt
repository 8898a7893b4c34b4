-- What the faults of a dual say.
use Rattle.std.proofs.Common.{◌≡◌, ℕ, zero, suc, ◌%◌, ◌<◌, Bool, true, false, cond, not, ◌&&◌, ◌||◌, ◌==◌, leb-true, refl, sym, subst, ap, ◌∙◌, arith}
use Rattle.std.specs.Prelude.{ℤ, pos, ◌≤ℤ◌, ◌<ℤ◌, int_lt, Option, None, Some, nat_le}
use Rattle.std.proofs.lemmas.Int.{ints}
use Rattle.std.proofs.lemmas.Bool.{and_parts, and_from}
use Rattle.std.proofs.lemmas.Option.{none-some, cond_some}
use Rattle.ct_words.specs.Numbers.{numbers_of, multiplier, combination}
use Rattle.ct_words.specs.Pairs.{first_of}
use Rattle.ct_duals.specs.declared.dual.Dual.{Dual}
use Rattle.ct_duals.specs.declared.fault.DualFault.{DualFault}
use Rattle.ct_duals.specs.declared.fault.DualFault.TheVariants.{Lead, Above}
use Rattle.ct_duals.specs.Dual.{as_index, degree_of, allowed, is_in_range, IsDual}
use Rattle.ct_duals.specs.Check.{first_below, is_above, fault_at, above_fault, dual_fault, IsBelow, IsLeastAbove}
use Rattle.ct_duals.specs.Bound.{AcceptedValue, IsAccepted}
use Rattle.ct_duals.proofs.First.{found_below, none_below, first_below-found}

-- what `Above` names, and 0 where there is nothing
abbrev at_of : DualFault → ℕ
at_of Lead = 0
at_of (Above at value limit) = at

abbrev value_of : DualFault → ℤ
value_of Lead = pos 0
value_of (Above at value limit) = value

abbrev limit_of : DualFault → ℤ
limit_of Lead = pos 0
limit_of (Above at value limit) = limit

abbrev is_lead : DualFault → Bool
is_lead Lead = true
is_lead (Above at value limit) = false

-- `Lead` comes where c_0 is below 1
pub lead-means : (number : ℕ → ℕ → ℤ) (d : Dual) → dual_fault number d ≡ Some Lead → multiplier d.c 0 ≤ℤ pos 0
unfolding dual_fault
lead-means number d found = go (int_lt (multiplier d.c 0) (pos 1)) refl found
  where
    go : (b : Bool) → int_lt (multiplier d.c 0) (pos 1) ≡ b → first_of (cond b (Some Lead) None) (above_fault number d) ≡ Some Lead → multiplier d.c 0 ≤ℤ pos 0
    go true is found = grind (arith, ints)
    go false is found =
        let at = found_below (fault_at number d) (suc (degree_of d.entry)) Lead found in
        let both = cond_some (is_above number d at.0) (Above at.0 (combination number d.c at.0) (allowed d.y at.0)) Lead at.2 in
        absurd (let e = ap is_lead both.1 in cc)

-- nothing is above at an index of the range that has no fault
pub below-from_no_fault : (number : ℕ → ℕ → ℤ) (d : Dual) (i : ℕ) → fault_at number d i ≡ None → is_in_range d.entry d.even i ≡ true
    → combination number d.c i ≤ℤ allowed d.y i
below-from_no_fault number d i none range =
    go (int_lt (allowed d.y i) (combination number d.c i)) refl
    (ap (λ b. cond (b && int_lt (allowed d.y i) (combination number d.c i)) (Some (Above i (combination number d.c i) (allowed d.y i))) None) (sym range) ∙ none)
  where
    go : (b : Bool) → int_lt (allowed d.y i) (combination number d.c i) ≡ b
        → cond b (Some (Above i (combination number d.c i) (allowed d.y i))) None ≡ None → combination number d.c i ≤ℤ allowed d.y i
    go true is h = absurd (none-some (Above i (combination number d.c i) (allowed d.y i)) (sym h))
    go false is h = grind (arith, ints)

-- where there is no fault, c_0 is at least 1 and f nowhere above what is allowed
pub below-from_none : (number : ℕ → ℕ → ℤ) (d : Dual) → dual_fault number d ≡ None → (pos 1 ≤ℤ multiplier d.c 0) × IsBelow number d
unfolding dual_fault
below-from_none number d none = go (int_lt (multiplier d.c 0) (pos 1)) refl none
  where
    go : (b : Bool) → int_lt (multiplier d.c 0) (pos 1) ≡ b → first_of (cond b (Some Lead) None) (above_fault number d) ≡ None
        → (pos 1 ≤ℤ multiplier d.c 0) × IsBelow number d
    go true is none = absurd (none-some Lead (sym none))
    go false is none = (
      grind (arith, ints),
      λ i range.
          let parts = and_parts (nat_le (as_index d.entry.w d.entry.d) i && nat_le i (degree_of d.entry)) (not d.even || i % 2 == 0) range in
          let ends = and_parts (nat_le (as_index d.entry.w d.entry.d) i) (nat_le i (degree_of d.entry)) parts.0 in
          let last = leb-true i (degree_of d.entry) ends.1 in
          below-from_no_fault number d i (none_below (fault_at number d) (suc (degree_of d.entry)) none i (omega arith)) range,
    )

-- where nothing comes at any number below the bound, nothing comes
none-from : {X : Type 0} (f : ℕ → Option X) (m : ℕ) → ((k : ℕ) → k < m → f k ≡ None) → first_below f m ≡ None
none-from f zero none = refl
none-from f (suc m) none = ap (λ o. first_of o (f m)) (none-from f m (λ k less. none k (omega arith))) ∙ none m (omega arith)

-- at an index there is no fault where f is at most what is allowed
no_fault-from_below : (number : ℕ → ℕ → ℤ) (d : Dual) (i : ℕ) → (is_in_range d.entry d.even i ≡ true → combination number d.c i ≤ℤ allowed d.y i)
    → fault_at number d i ≡ None
no_fault-from_below number d i below = go (is_in_range d.entry d.even i) refl
  where
    go : (b : Bool) → is_in_range d.entry d.even i ≡ b
        → cond (b && int_lt (allowed d.y i) (combination number d.c i)) (Some (Above i (combination number d.c i) (allowed d.y i))) None ≡ None
    go false out = refl
    go true inside =
        let least = below inside in
        let no : int_lt (allowed d.y i) (combination number d.c i) ≡ false = grind (arith, ints) in
        rw no refl

-- where c_0 is at least 1 and f nowhere above what is allowed, there is no fault
pub none-from_below : (number : ℕ → ℕ → ℤ) (d : Dual) → pos 1 ≤ℤ multiplier d.c 0 → IsBelow number d → dual_fault number d ≡ None
unfolding dual_fault
none-from_below number d lead below =
    let no : int_lt (multiplier d.c 0) (pos 1) ≡ false = grind (arith, ints) in
    ap (λ b. first_of (cond b (Some Lead) None) (above_fault number d)) no
    ∙ none-from (fault_at number d) (suc (degree_of d.entry)) (λ i less. no_fault-from_below number d i (below i))

-- so a dual of the form of one stands where there is no reason against it, and there is none against one that stands
pub accepted-from_none : (d : Dual) → IsDual d → dual_fault (numbers_of d.entry) d ≡ None
    → IsAccepted (record { dual = d; at_zero = combination (numbers_of d.entry) d.c 0 })
accepted-from_none d form none =
    let met = below-from_none (numbers_of d.entry) d none in
    record { form = form; lead = met.0; below = met.1; at_zero_is = refl }

pub none-from_accepted : (a : AcceptedValue) → IsAccepted a → dual_fault (numbers_of a.dual.entry) a.dual ≡ None
none-from_accepted a h = none-from_below (numbers_of a.dual.entry) a.dual h.lead h.below

-- `Above` comes with the least index
pub above-means : (number : ℕ → ℕ → ℤ) (d : Dual) (at : ℕ) (value limit : ℤ) → dual_fault number d ≡ Some (Above at value limit)
    → IsLeastAbove number d at value limit
unfolding dual_fault
above-means number d at value limit found = go (int_lt (multiplier d.c 0) (pos 1)) refl found
  where
    go : (b : Bool) → int_lt (multiplier d.c 0) (pos 1) ≡ b → first_of (cond b (Some Lead) None) (above_fault number d) ≡ Some (Above at value limit)
        → IsLeastAbove number d at value limit
    go true is found = absurd (let e = ap (λ o. cond_lead o) found in cc)
      where
        cond_lead : Option DualFault → Bool
        cond_lead None = true
        cond_lead (Some f) = is_lead f
    go false is found =
        let here = found_below (fault_at number d) (suc (degree_of d.entry)) (Above at value limit) found in
        let k = here.0 in
        let both = cond_some (is_above number d k) (Above k (combination number d.c k) (allowed d.y k)) (Above at value limit) here.2 in
        let parts = and_parts (is_in_range d.entry d.even k) (int_lt (allowed d.y k) (combination number d.c k)) both.0 in
        let k_is : k ≡ at = ap at_of both.1 in
        let value_is : combination number d.c k ≡ value = ap value_of both.1 in
        let limit_is : allowed d.y k ≡ limit = ap limit_of both.1 in
        let greater : allowed d.y k <ℤ combination number d.c k = grind (arith, ints, parts.1) in
        record {
          lead = grind (arith, ints);
          in_range = ap (λ i. is_in_range d.entry d.even i) (sym k_is) ∙ parts.0;
          value_is = sym value_is ∙ ap (combination number d.c) k_is;
          limit_is = sym limit_is ∙ ap (allowed d.y) k_is;
          above = omega (arith, ints);
          least = λ i less range. below-from_no_fault number d i (none_below (fault_at number d) k here.3 i (omega arith)) range;
        }

-- where c_0 is below 1, `Lead` comes
pub lead-from : (number : ℕ → ℕ → ℤ) (d : Dual) → multiplier d.c 0 ≤ℤ pos 0 → dual_fault number d ≡ Some Lead
unfolding dual_fault
lead-from number d small =
    let yes : int_lt (multiplier d.c 0) (pos 1) ≡ true = grind (arith, ints) in
    ap (λ b. first_of (cond b (Some Lead) None) (above_fault number d)) yes

-- at an index of the range there is a fault where f is above what is allowed
fault-from_above : (number : ℕ → ℕ → ℤ) (d : Dual) (at : ℕ) (value limit : ℤ) → IsLeastAbove number d at value limit
    → fault_at number d at ≡ Some (Above at value limit)
fault-from_above number d at value limit h =
    let greater : allowed d.y at <ℤ combination number d.c at = subst (λ v. allowed d.y at <ℤ v) h.value_is (subst (λ v. v <ℤ value) h.limit_is h.above) in
    let yes : int_lt (allowed d.y at) (combination number d.c at) ≡ true = grind (arith, ints) in
    ap (λ b. cond b (Some (Above at (combination number d.c at) (allowed d.y at))) None)
    (and_from (is_in_range d.entry d.even at) (int_lt (allowed d.y at) (combination number d.c at)) h.in_range yes)
    ∙ ap (λ v. Some (Above at v (allowed d.y at))) (sym h.value_is)
    ∙ ap (λ v. Some (Above at value v)) (sym h.limit_is)

-- where f is above at an index of the range and at no lesser one, `Above` comes with it
pub above-from : (number : ℕ → ℕ → ℤ) (d : Dual) (at : ℕ) (value limit : ℤ) → IsLeastAbove number d at value limit
    → dual_fault number d ≡ Some (Above at value limit)
unfolding dual_fault
above-from number d at value limit h =
    let lead = h.lead in
    let no : int_lt (multiplier d.c 0) (pos 1) ≡ false = grind (arith, ints) in
    let parts = and_parts (nat_le (as_index d.entry.w d.entry.d) at && nat_le at (degree_of d.entry)) (not d.even || at % 2 == 0) h.in_range in
    let ends = and_parts (nat_le (as_index d.entry.w d.entry.d) at) (nat_le at (degree_of d.entry)) parts.0 in
    let last = leb-true at (degree_of d.entry) ends.1 in
    ap (λ b. first_of (cond b (Some Lead) None) (above_fault number d)) no
    ∙ first_below-found (fault_at number d) at (Above at value limit)
    (none-from (fault_at number d) at (λ i less. no_fault-from_below number d i (h.least i less)))
    (fault-from_above number d at value limit h) (suc (degree_of d.entry)) (omega arith)
