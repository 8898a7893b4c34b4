use Rattle.std.proofs.Common.{suc, subst, arith}
use Rattle.ct_words.specs.declared.entry.Entry.{Entry}
use Rattle.ct_weight_rules.specs.Neighbours.{of_weight}
use Rattle.ct_offers.specs.Inside.Marking.{AreTestedByDuals}
use Rattle.ct_offers.proofs.MarkingLemmas.{keeps-trans}
use Rattle.ct_offers.proofs.DualLemmas.{at_weights_more, tested_from_plain, tested_from_odd}
use Rattle.ct_offers.proofs.marking.mark_each_weight.Goals as goal

pub returns-in_default-clause-tested : goal.returns-in_default-clause-tested
returns-in_default-clause-tested c = λ w less.
    tested_from_plain c.args.supports.now c.args.bounds.now c.args.work.now c.args.entry c.in_default.is (of_weight c.args.entry w)

pub returns-then-weight-eq1-clause-tested : goal.returns-then-weight-eq1-clause-tested
returns-then-weight-eq1-clause-tested c =
    tested_from_odd c.args.supports.now c.args.bounds.now c.args.work.now c.args.entry c.in-Some.weight (suc c.args.entry.n) c.in-Some.is
    c.if-weight-eq1.true

pub loop-w-preserved : goal.loop-w-preserved
loop-w-preserved c =
    let supports = c.args.supports.now in
    let bounds = c.args.bounds.now in
    let keeps = c.in_ok-mark_by_duals.ensures.kept in (
      keeps-trans c.args.work.now c.loop-w.work c.mark_by_duals.new.work c.loop-w.invariant.0 keeps,
      at_weights_more supports bounds c.loop-w.work c.mark_by_duals.new.work c.args.entry c.loop-w.w keeps c.loop-w.invariant.1
          (subst (λ (e : Entry). AreTestedByDuals supports bounds c.mark_by_duals.new.work c.args.entry e) c.of_weight-other.ensures
          c.in_ok-mark_by_duals.ensures.tested),
    )

pub returns-clause-tested : goal.returns-clause-tested
returns-clause-tested c = λ w less. c.loop-w.invariant.1 w (omega (arith, less, c.loop-w-test.false))

pub loop-w-init : goal.loop-w-init
loop-w-init c = (λ t entry marked. marked, λ w below. absurd (omega (arith, below)))

pub mark_by_duals-requires : goal.mark_by_duals-requires
mark_by_duals-requires c = record { places = c.requires.places; stand = c.requires.stand; true_bounds = c.requires.true_bounds }

pub returns-clause-kept : goal.returns-clause-kept
returns-clause-kept c = c.loop-w.invariant.0

pub returns-in_err-mark_by_duals-clause-kept : goal.returns-in_err-mark_by_duals-clause-kept
returns-in_err-mark_by_duals-clause-kept c =
    keeps-trans c.args.work.now c.loop-w.work c.mark_by_duals.new.work c.loop-w.invariant.0 c.in_err-mark_by_duals.ensures.kept
