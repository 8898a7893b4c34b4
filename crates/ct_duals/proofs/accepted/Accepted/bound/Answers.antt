-- The bound is that of the definition, and true.
use Rattle.std.proofs.Common.{rules, ◌≡◌, ◌≤◌, ◌<◌, ◌+◌, ◌/◌, ◌^◌, min, pos, ℕ, ℤ, List, get_or, sym, ap, ap₂, subst, ◌∙◌, length, arith}
use Rattle.std.specs.Prelude.{◌+ℤ◌, ◌≤ℤ◌, unsigned_abs}
use Rattle.std.proofs.lemmas.Int.{to_z-of_z, fits_signed_from_abs}
use mir.Val.{SFits, to_z, of_z}
use mir.Syntax.{w64, w128}
use Rattle.ct_words.specs.declared.limits.TheConstants.{MAX_N, MAX_BOUND}
use Rattle.ct_words.specs.Code.{IsTrueUpper}
use Rattle.ct_words.specs.Numbers.{multiplier}
use Rattle.ct_duals.specs.Bound.{AcceptedValue, AreTrueUppers, dual_premises, positive, charges, near_charge, far_charge, natural, dual_bound}
use Rattle.ct_duals.proofs.DualBound.{few_allowances}
use Rattle.ct_duals.proofs.accepted.Accepted.bound.Goals as goal
use Rattle.ct_duals.proofs.accepted.Accepted.bound.Goals.{After-as_slice-2, After-quotient}

pub charge-charge-requires-clause-few : goal.charge-charge-requires-clause-few
charge-charge-requires-clause-few c =
    subst (λ y. length y ≤ MAX_N) (sym c.as_slice.ensures) (few_allowances c.self.inside.dual.now c.self.invariant.accepted.form)

wide : (z : ℤ) → unsigned_abs z < 2 ^ 116 → SFits w128 z
wide z small = fits_signed_from_abs w128 z (omega (arith, small))

at_zero_is : (z : ℤ) → unsigned_abs z < 2 ^ 116 → to_z w128 (of_z w128 z) ≡ z
at_zero_is z small = to_z-of_z w128 z (wide z small)

-- the first multiplier as it is read
lead_is : (c : After-as_slice-2) → to_z w64 (of_z w64 (get_or c.as_slice-2.result.now 0 (pos 0))) ≡ multiplier c.self.inside.dual.now.c 0
lead_is c =
    let f : SFits w64 (get_or c.as_slice-2.result.now 0 (pos 0)) = search rules in
    to_z-of_z w64 (get_or c.as_slice-2.result.now 0 (pos 0)) f ∙ ap (λ zs. get_or zs 0 (pos 0)) c.as_slice-2.ensures

pub quotient-requires : goal.quotient-requires
quotient-requires c =
    let at = (goal.at.quotient-requires c).After-as_slice-2 in
    let a = c.self.inside.at_zero in
    let small = c.self.invariant.small in
    let a_is = sym (at_zero_is a small) in
    record {
      lead = subst (λ z. pos 1 ≤ℤ z) (sym (lead_is at)) c.self.invariant.accepted.lead;
      least = subst (λ z. z ≤ℤ to_z w128 (of_z w128 a)) (sym (lead_is at))
          (subst (λ z. multiplier c.self.inside.dual.now.c 0 ≤ℤ z) a_is c.self.invariant.least);
      at_zero = subst (λ z. unsigned_abs z < 2 ^ 116) a_is small;
      charge = c.charge-charge.ensures.small;
    }

-- what is returned
value : (c : After-quotient) → to_z w64 (of_z w64 (get_or c.as_slice-2.result.now 0 (pos 0))) ≡ multiplier c.self.inside.dual.now.c 0
    → c.quotient.result ≡ dual_bound c.self.inside.dual.now c.self.inside.at_zero c.args.uppers.now
unfolding dual_bound
value c lead =
    let e = c.self.inside.dual.now.entry in
    let us = c.args.uppers.now in
    let charge_is = ap (λ (y : List (ℕ × ℤ)). near_charge e (charges (positive y) us) + far_charge e (charges (positive y) us)) c.as_slice.ensures in
    let sum = ap₂ (λ x y. x +ℤ pos y) (at_zero_is c.self.inside.at_zero c.self.invariant.small) (c.charge-charge.ensures.value ∙ charge_is) in
    c.quotient.ensures.value ∙ ap₂ (λ x y. min MAX_BOUND (natural x / natural y)) sum lead

pub returns-clause-value : goal.returns-clause-value
returns-clause-value c =
    let at = goal.at.returns-clause-value c in
    subst (λ (v : AcceptedValue). c.quotient.result ≡ dual_bound v.dual v.at_zero c.args.uppers.now) c.self.view_is
    (value at.After-quotient (lead_is at.After-as_slice-2))

pub returns-clause-some : goal.returns-clause-some
returns-clause-some c = c.quotient.ensures.some

pub returns-clause-limit : goal.returns-clause-limit
returns-clause-limit c = within _ _ c.quotient.ensures.value
  where
    within : (r k : ℕ) → r ≡ min MAX_BOUND k → r ≤ MAX_BOUND
    within r k is = omega arith

pub returns-clause-sound : goal.returns-clause-sound
returns-clause-sound c =
    let at = goal.at.returns-clause-sound c in
    let us = c.args.uppers.now in
    let Is : AcceptedValue → Type 0 = λ v. AreTrueUppers (dual_premises v.dual) us → IsTrueUpper v.dual.entry c.quotient.result in
    subst Is c.self.view_is (λ known. subst (λ m. IsTrueUpper c.self.inside.dual.now.entry m) (sym (value at.After-quotient (lead_is at.After-as_slice-2)))
    (c.self.invariant.sound us known))
