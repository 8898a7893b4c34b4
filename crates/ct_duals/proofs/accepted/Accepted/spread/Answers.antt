-- The spread is that of the definition, and f adds up to at most that for each word.
use Rattle.std.proofs.Common.{◌≡◌, ◌≤◌, pos, ◌+ℤ◌, sym, ap, ap₂, ◌∙◌, subst, length, ℕ, ◌+◌, List, ℤ, arith}
use Rattle.std.proofs.lemmas.Int.{to_z-of_z}
use mir.Val.{SFits, to_z, of_z}
use mir.Syntax.{w128}
use Rattle.ct_words.specs.declared.limits.TheConstants.{MAX_N}
use Rattle.ct_words.specs.Numbers.{numbers_of, combination}
use Rattle.ct_duals.specs.Bound.{AcceptedValue, AreTrueUppers, dual_premises, positive, charges, near_charge, far_charge, IsSpread, dual_spread}
use Rattle.ct_duals.proofs.DualBound.{few_allowances}
use Rattle.ct_duals.proofs.accepted.Accepted.spread.Goals as goal

pub charge-charge-requires-clause-few : goal.charge-charge-requires-clause-few
charge-charge-requires-clause-few c =
    subst (λ y. length y ≤ MAX_N) (sym c.as_slice.ensures) (few_allowances c.self.inside.dual.now c.self.invariant.accepted.form)

pub returns-clause-pairs : goal.returns-clause-pairs
returns-clause-pairs c =
    let a : AcceptedValue = record { dual = c.self.inside.dual.now; at_zero = c.self.inside.at_zero } in
    let us = c.args.uppers.now in
    let f : SFits w128 a.at_zero = record { sfits = omega (arith, c.self.invariant.small) } in
    let charge_is = ap (λ (y : List (ℕ × ℤ)). near_charge a.dual.entry (charges (positive y) us) + far_charge a.dual.entry (charges (positive y) us)) c.as_slice.ensures in
    let g : SFits w128 c.sum.result = record { sfits = c.sum.type_inv } in
    let value : to_z w128 (of_z w128 c.sum.result) ≡ dual_spread a.dual a.at_zero us =
    to_z-of_z w128 c.sum.result g ∙ c.sum.ensures ∙ ap₂ (λ x y. x +ℤ pos y) (to_z-of_z w128 a.at_zero f) (c.charge-charge.ensures.value ∙ charge_is) in
    let Is : AcceptedValue → Type 0 =
    λ v. AreTrueUppers (dual_premises v.dual) us → IsSpread v.dual.entry (combination (numbers_of v.dual.entry) v.dual.c) (to_z w128 (of_z w128 c.sum.result)) in
    subst Is c.self.view_is (λ known. subst (λ (z : ℤ). IsSpread a.dual.entry (combination (numbers_of a.dual.entry) a.dual.c) z) (sym value) (c.self.invariant.spread us known))
