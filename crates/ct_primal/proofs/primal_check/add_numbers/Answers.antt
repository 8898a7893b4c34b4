-- One more number.
use Rattle.std.proofs.Common.{rules, get_or, ap, arith, ℕ}
use Rattle.std.specs.Prelude.{ℤ, pos}
use Rattle.std.proofs.lemmas.Int.{to_z-of_z, ints}
use Rattle.std.proofs.lemmas.List.{drop_more}
use mir.Val.{SFits}
use mir.Syntax.{w64, w128}
use Rattle.ct_words.specs.Counting.Sums.{total}
use Rattle.ct_primal.proofs.primal_check.add_numbers.Goals as goal

pub loop-number-preserved : goal.loop-number-preserved
loop-number-preserved c =
    let pairs = c.args.pairs.now in
    let term : ℕ × ℤ → ℤ = λ u. u.1 in
    let u = get_or pairs c.loop-number.number-index (0, pos 0) in
    let all : SFits w128 c.add_number-sum.result = record { sfits = c.add_number-sum.type_inv } in
    let number : SFits w64 u.1 = search rules in
    let value = simp to_z-of_z at c.add_number-sum.ensures.value in
    let small = c.add_number-sum.ensures.small in
    let rest = ap (total term) (drop_more pairs c.loop-number.number-index (0, pos 0) c.loop-number-test.true) in
    let was = c.loop-number.invariant.0 in
    let some = c.loop-number.invariant.1 in
    let few = c.loop-number.invariant.2 in
    let natural = c.requires.numbers c.loop-number.number-index (0, pos 0) c.loop-number-test.true in
    rw (to_z-of_z w128 c.add_number-sum.result all) (omega (arith, ints, value, rest, was), omega (arith, ints, value, some, natural), omega (arith, small, few))
