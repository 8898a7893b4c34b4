-- One more product.
use Rattle.std.proofs.Common.{rules, get_or, sym, ap, ap₂, ◌∙◌, arith, add-one, ℕ}
use Rattle.std.specs.Prelude.{ℤ, pos, ◌+ℤ◌, ◌*ℤ◌}
use Rattle.std.proofs.lemmas.Int.{to_z-of_z}
use mir.Val.{SFits}
use mir.Syntax.{w64, w128}
use Rattle.ct_words.specs.Counting.Alternating.{total_below}
use Rattle.ct_words.specs.Numbers.{multiplier}
use Rattle.ct_duals.proofs.check.combination.Goals as goal

pub loop-k-preserved : goal.loop-k-preserved
loop-k-preserved g c =
    let z = get_or c.args.c.now c.loop-k.k (pos 0) in
    let number : ℕ → ℤ = λ (j : ℕ). g.S.Scheme.number c.args.scheme.now j c.args.i in
    let term : ℕ → ℤ = λ (j : ℕ). multiplier c.args.c.now j *ℤ number j in
    let f : SFits w128 c.add_product-sum.result = record { sfits = c.add_product-sum.type_inv } in
    let f64 : SFits w64 z = search rules in
    let f128 : SFits w128 c.number.result = record { sfits = c.number.type_inv } in
    let was = c.loop-k.invariant.0 in
    let few = c.loop-k.invariant.1 in
    let value = simp to_z-of_z at c.add_product-sum.ensures.value in
    let small = c.add_product-sum.ensures.small in
    rw (to_z-of_z w128 c.add_product-sum.result f) (
      value ∙ ap₂ (λ a b. a +ℤ (z *ℤ b)) was c.number.ensures.value ∙ sym (ap (total_below term) (add-one c.loop-k.k)),
      omega (arith, few, small),
    )
