-- One more product; the numbers of a scheme are small, so each product is.
use Rattle.std.proofs.Common.{rules, ◌≡◌, ◌≤◌, ◌+◌, ◌*◌, ◌^◌, get_or, refl, drop, ap, ◌∙◌, sym, subst, arith, ℕ}
use Rattle.std.specs.Prelude.{ℤ, pos, ◌+ℤ◌, ◌*ℤ◌, unsigned_abs}
use Rattle.std.proofs.lemmas.Int.{to_z-of_z, ints}
use Rattle.std.proofs.lemmas.List.{drop_more, drop_all}
use mir.Val.{SFits, to_z, of_z}
use mir.Syntax.{w64, w128}
use Rattle.ct_words.specs.Counting.Sums.{total}
use Rattle.ct_words.specs.Scheme.{IsSmall}
use Rattle.ct_primal.proofs.primal_check.add_products.Goals as goal

-- a product goes from those that are left to the sum
one_more : (first all sum left product next after : ℤ) → sum +ℤ left ≡ first +ℤ all → left ≡ product +ℤ next → after ≡ sum +ℤ product
    → after +ℤ next ≡ first +ℤ all
one_more first all sum left product next after was is step = omega (arith, ints)

pub loop-i-preserved : goal.loop-i-preserved
loop-i-preserved g c =
    let pairs = c.args.pairs.now in
    let i = c.loop-i.i-index in
    let term : ℕ × ℤ → ℤ = λ u. u.1 *ℤ g.S.Scheme.number c.args.scheme.now c.args.k u.0 in
    let u = get_or pairs i (0, pos 0) in
    let result = c.add_product-sum.result in
    let all : SFits w128 result = record { sfits = c.add_product-sum.type_inv } in
    let number : SFits w128 c.number.result = record { sfits = c.number.type_inv } in
    let multiplier : SFits w64 u.1 = search rules in
    let value = simp to_z-of_z at c.add_product-sum.ensures.value in
    let rest = ap (total term) (drop_more pairs i (0, pos 0) c.loop-i-test.true) in
    let was = c.loop-i.invariant.0 in
    let few = c.loop-i.invariant.1 in
    let small = c.add_product-sum.ensures.small in
    let sum = to_z w128 c.loop-i.sum-bits in
    let step = value ∙ ap (λ z. sum +ℤ (u.1 *ℤ z)) c.number.ensures.value in
    let first = to_z w128 (of_z w128 c.args.first) in
    let next = total term (drop (i + 1) pairs) in
    rw (to_z-of_z w128 result all) (
      one_more first (total term pairs) sum (total term (drop i pairs)) (term u) next result was rest step,
      omega (arith, few, small),
    )

pub add_product-sum-requires-clause-sum : goal.add_product-sum-requires-clause-sum
add_product-sum-requires-clause-sum g c =
    let few = c.requires.few in
    let below = c.loop-i-test.true in
    let small = c.loop-i.invariant.1 in
    omega (arith, few, below, small)

pub add_product-sum-requires-clause-number : goal.add_product-sum-requires-clause-number
add_product-sum-requires-clause-number g c =
    let number : SFits w128 c.number.result = record { sfits = c.number.type_inv } in
    subst IsSmall (sym (to_z-of_z w128 c.number.result number)) c.number.ensures.small

pub loop-i-init : goal.loop-i-init
loop-i-init g c =
    let small = c.requires.first in
    (refl, subst (λ z. unsigned_abs z ≤ (0 + 1) * 2 ^ 110) (sym (to_z-of_z w128 c.args.first c.ranges.first)) (omega (arith, small)))

-- none is left
none_left : (first all sum left read : ℤ) → sum +ℤ left ≡ read +ℤ all → left ≡ pos 0 → read ≡ first → sum ≡ first +ℤ all
none_left first all sum left read was none is = omega (arith, ints)

pub returns : goal.returns
returns g c =
    let pairs = c.args.pairs.now in
    let i = c.loop-i.i-index in
    let term : ℕ × ℤ → ℤ = λ u. u.1 *ℤ g.S.Scheme.number c.args.scheme.now c.args.k u.0 in
    let first = c.args.first in
    none_left first (total term pairs) (to_z w128 c.loop-i.sum-bits) (total term (drop i pairs)) (to_z w128 (of_z w128 first)) c.loop-i.invariant.0
    (ap (total term) (drop_all i pairs c.loop-i-test.false)) (to_z-of_z w128 first c.ranges.first)
