-- One more product; at the end f over the pairs of words.
use Rattle.std.proofs.Common.{rules, get_or, ◌≡◌, ◌%◌, length, sym, ap, ap₂, ◌∙◌, subst, arith, add-one, ℕ}
use Rattle.std.specs.Prelude.{ℤ, pos, ◌+ℤ◌, ◌*ℤ◌, ◌≤ℤ◌}
use Rattle.std.proofs.lemmas.Int.{to_z-of_z}
use mir.Val.{SFits}
use mir.Syntax.{w64, w128}
use Rattle.ct_words.specs.Word.{distance}
use Rattle.ct_words.specs.Counting.Alternating.{total_below}
use Rattle.ct_words.specs.Counting.PairTotals.{pair_total}
use Rattle.ct_words.specs.Numbers.{krawtchouk, multiplier, combination}
use Rattle.ct_parity.specs.OddSum.{least_sum, odd_sum}
use Rattle.ct_parity.proofs.OddLists.{odd_sum-le}
use Rattle.ct_parity.proofs.sums.odd_sum.Goals as goal

pub loop-k-preserved : goal.loop-k-preserved
loop-k-preserved c =
    let z = get_or c.args.c.now c.loop-k.k (pos 0) in
    let term : ℕ → ℤ = λ (j : ℕ). multiplier c.args.c.now j *ℤ pos (least_sum c.args.n c.args.m j) in
    let f : SFits w128 c.add_product-sum.result = record { sfits = c.add_product-sum.type_inv } in
    let f64 : SFits w64 z = search rules in
    let was = c.loop-k.invariant.0 in
    let few = c.loop-k.invariant.1 in
    let value = simp to_z-of_z at c.add_product-sum.ensures.value in
    let small = c.add_product-sum.ensures.small in
    rw (to_z-of_z w128 c.add_product-sum.result f) (
      value ∙ ap₂ (λ a b. a +ℤ (z *ℤ pos b)) was c.least_sum.ensures.value ∙ sym (ap (total_below term) (add-one c.loop-k.k)),
      omega (arith, few, small),
    )

pub returns-clause-least : goal.returns-clause-least
returns-clause-least c = λ words many.
    let n = c.args.n in
    let cs = c.args.c.now in
    let odd : length words % 2 ≡ 1 = ap (λ (m : ℕ). m % 2) many ∙ c.requires.odd in
    let below = odd_sum-le n cs words (λ k l. c.requires.multipliers k (pos 0) l) odd in
    let end : c.loop-k.k ≡ length cs = omega (arith, c.loop-k-test.false, c.loop-k.auto.k-end) in
    let sum = c.loop-k.invariant.0 ∙ ap (total_below (λ (j : ℕ). multiplier cs j *ℤ pos (least_sum n c.args.m j))) end ∙ ap (λ (m : ℕ). odd_sum n m cs) (sym many) in
    subst (λ (s : ℤ). s ≤ℤ pair_total (λ (x y : ℕ). combination (krawtchouk n) cs (distance n x y)) words) (sym sum) below
