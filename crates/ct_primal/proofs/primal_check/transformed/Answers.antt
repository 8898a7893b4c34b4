-- The scale comes first, and there are few numbers.
use Rattle.std.proofs.Common.{rules, ◌≡◌, ◌≤◌, pos, length, sym, ap, ap₂, ◌∙◌, subst, arith, ℕ, List}
use Rattle.std.specs.Prelude.{ℤ, ◌+ℤ◌, ◌*ℤ◌}
use Rattle.std.proofs.lemmas.Int.{to_z-of_z, ints}
use mir.Val.{SFits}
use mir.Syntax.{w64, w128}
use Rattle.ct_words.specs.declared.limits.TheConstants.{MAX_N}
use Rattle.ct_words.specs.Counting.Sums.{total}
use Rattle.ct_duals.proofs.DualBound.{few_indices}
use Rattle.ct_primal.specs.Primal.{PrimalValue}
use Rattle.ct_primal.proofs.primal_check.transformed.Goals as goal

pub add_products-requires-clause-few : goal.add_products-requires-clause-few
add_products-requires-clause-few g c =
    let p = c.args.primal.now in
    let form = c.requires.form in
    let pairs_are = c.deref.ensures.value ∙ ap (λ (v : PrimalValue). v.a) c.primal.view_is in
    subst (λ pairs. length pairs ≤ MAX_N) (sym pairs_are) (few_indices p.entry p.even p.a form.entry form.ascending form.numbers)

pub returns : goal.returns
returns g c =
    let term : ℕ × ℤ → ℤ = λ u. u.1 *ℤ g.S.Scheme.number c.args.scheme.now c.args.k u.0 in
    let all : SFits w128 c.add_products.result = record { sfits = c.add_products.type_inv } in
    let one : SFits w128 c.add_product-first.result = record { sfits = c.add_product-first.type_inv } in
    let q = c.primal.inside.q in
    let scale : SFits w64 q = search rules in
    let number : SFits w128 c.number.result = record { sfits = c.number.type_inv } in
    let value = simp to_z-of_z at c.add_product-first.ensures.value in
    let alone : pos 0 +ℤ (q *ℤ c.number.result) ≡ q *ℤ c.number.result = omega (arith, ints) in
    let q_is = ap (λ (v : PrimalValue). v.q) c.primal.view_is in
    let first = to_z-of_z w128 c.add_product-first.result one ∙ value ∙ alone ∙ ap₂ (λ y z. y *ℤ z) q_is c.number.ensures.value in
    let pairs_are = c.deref.ensures.value ∙ ap (λ (v : PrimalValue). v.a) c.primal.view_is in
    to_z-of_z w128 c.add_products.result all ∙ c.add_products.ensures ∙ ap₂ (λ x (us : List (ℕ × ℤ)). x +ℤ total term us) first pairs_are
