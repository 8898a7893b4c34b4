use Rattle.std.proofs.Common.{take_all, subst, ap, ◌∙◌, ◌++◌, ◌∷◌, [], All}
use Rattle.ct_rule_parts.specs.declared.support.Support.{Support}
use Rattle.ct_slots.specs.Places.{entry_of_support}
use Rattle.ct_table.specs.Inside.Starting.{IsMarkedIfGiven}
use Rattle.ct_table.proofs.PlacedSupports.{one_more_place, one_more_mark}
use Rattle.ct_table.proofs.start.place_supports.Goals as goal

pub loop-support-preserved : goal.loop-support-preserved
loop-support-preserved c = (
  one_more_place c.args.supports.now c.loop-support.support-index c.support-item.result c.loop-support.places c.add.new.self c.loop-support-test.true
      (c.in_ok-add.ensures.added ∙ ap (λ (s : Support). c.loop-support.places ++ entry_of_support s ∷ []) c.support-item.is) c.loop-support.invariant.0,
  one_more_mark c.args.supports.now c.loop-support.support-index c.support-item.result c.loop-support.work c.mark_given.new.work
      c.loop-support-test.true c.mark_given.ensures.kept c.loop-support.invariant.1
      (subst (IsMarkedIfGiven c.mark_given.new.work) c.support-item.is c.in_ok-mark_given.ensures.given),
)

pub returns-clause-marked : goal.returns-clause-marked
returns-clause-marked c =
    subst (All (IsMarkedIfGiven c.loop-support.work))
    (take_all c.loop-support.support-index c.args.supports.now c.loop-support-test.false) c.loop-support.invariant.1
