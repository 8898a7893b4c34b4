-- One more place.
use Rattle.std.proofs.Common.{◌≡◌, sym, ap, ◌∙◌, arith, length-set, take}
use Rattle.ct_rule_parts.proofs.LesserLists.{put_lesser-more, lesser-all}
use Rattle.ct_rule_parts.proofs.local_dual.put_lesser.Goals as goal

pub loop-place-preserved : goal.loop-place-preserved
loop-place-preserved c =
    let us = c.args.uppers.now in
    let vs = c.args.others.now in
    let row = c.loop-place.row in
    let place = c.loop-place.place in
    let here = c.loop-place-test.true in
    let count = c.min-count.ensures in
    let room = c.loop-place.invariant.1 in
    let long = length-set row place c.min.result in (
      put_lesser-more us vs row place c.min.result (omega arith) (omega arith) (omega arith) c.min.ensures c.loop-place.invariant.0,
      omega arith,
    )

pub returns-clause-lesser : goal.returns-clause-lesser
returns-clause-lesser c =
    let all : c.loop-place.place ≡ c.min-count.result = omega (arith, c.loop-place-test.false, c.loop-place.auto) in
    ap (λ k. take k c.loop-place.row) (sym all) ∙ c.loop-place.invariant.0
    ∙ lesser-all c.args.uppers.now c.args.others.now c.loop-place.place (all ∙ c.min-count.ensures)
