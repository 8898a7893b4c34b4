-- The terms before the first place and after the last one are 0, and the sum so far is small.
use Rattle.std.proofs.Common.{◌≡◌, suc, ◌+◌, ◌-◌, min, sym, ap, ap₂, ◌∙◌, arith}
use Rattle.std.specs.Prelude.{pos, ◌+ℤ◌, ◌*ℤ◌}
use Rattle.std.proofs.lemmas.Int.{to_z-of_z}
use mir.Val.{SFits}
use mir.Syntax.{w128}
use Rattle.ct_words.specs.Counting.Alternating.{total_below, sign}
use Rattle.ct_words.specs.Numbers.{johnson}
use Rattle.ct_scheme.specs.Numbers.{term_count}
use Rattle.ct_scheme.proofs.JohnsonSums.{IsWithin, term, sum_has_room, sum_before, sum_after}
use Rattle.ct_scheme.proofs.numbers.johnson_number.Goals as goal

pub loop-j-init : goal.loop-j-init
loop-j-init c =
    let r = c.requires in
    let n = c.args.n in
    let w = c.args.w in
    let k = c.args.k in
    let i = c.args.i in
    let row = r.row in
    let index = r.index in
    let within : IsWithin n w k i = record { length = r.length; weight = r.weight; row = r.row; index = r.index } in
    let first = c.saturating_sub-first.result in
    let least_is = c.min.ensures in
    let difference_is = c.saturating_sub-first.ensures in
    let first_is : first ≡ k + i - min w (n - w) = omega arith in
    let before : total_below (term n w k i) first ≡ pos 0 = ap (total_below (term n w k i)) first_is ∙ sum_before n w k i within in
    let f : SFits w128 c.add_alternating-sum.result = record { sfits = c.add_alternating-sum.type_inv } in (
      c.first_count-count.ensures,
      to_z-of_z w128 c.add_alternating-sum.result f ∙ c.add_alternating-sum.ensures
          ∙ ap₂ (λ a b. a +ℤ b) (sym before) (ap (λ m. sign first *ℤ pos m) c.first_count-count.ensures),
      omega arith,
      omega arith,
    )

pub add_alternating-sum-requires-in-loop-j : goal.add_alternating-sum-requires-in-loop-j
add_alternating-sum-requires-in-loop-j c =
    let r = c.requires in
    let within : IsWithin c.args.n c.args.w c.args.k c.args.i = record { length = r.length; weight = r.weight; row = r.row; index = r.index } in
    let most = c.loop-j.invariant.2 in
    rw c.loop-j.invariant.1 (sum_has_room c.args.n c.args.w c.args.k c.args.i (suc c.loop-j.j) within (omega arith))

pub loop-j-preserved : goal.loop-j-preserved
loop-j-preserved c =
    let n = c.args.n in
    let w = c.args.w in
    let k = c.args.k in
    let i = c.args.i in
    let j = c.loop-j.j in
    let below = c.loop-j-test.true in
    let end_is = c.min-j-end.ensures in
    let far = c.loop-j.invariant.3 in
    let place : suc j ≡ j + 1 = omega arith in
    let count_is : c.next_count-count.result ≡ term_count n w k i (j + 1) = c.next_count-count.ensures ∙ ap (term_count n w k i) place in
    let f : SFits w128 c.add_alternating-sum-in-loop-j.result = record { sfits = c.add_alternating-sum-in-loop-j.type_inv } in (
      count_is,
      to_z-of_z w128 c.add_alternating-sum-in-loop-j.result f ∙ c.add_alternating-sum-in-loop-j.ensures
          ∙ ap₂ (λ a b. a +ℤ b) (c.loop-j.invariant.1 ∙ ap (total_below (term n w k i)) place) (ap (λ m. sign (j + 1) *ℤ pos m) count_is),
      omega arith,
      omega arith,
    )

pub returns : goal.returns
unfolding johnson
returns c =
    let ends = c.loop-j-test.false in
    let most = c.loop-j.invariant.2 in
    let end_is = c.min-j-end.ensures in
    let all : suc c.loop-j.j ≡ suc (min c.args.k c.args.i) = omega arith in
    c.loop-j.invariant.1 ∙ ap (total_below (term c.args.n c.args.w c.args.k c.args.i)) all ∙ sum_after c.args.n c.args.w c.args.k c.args.i
