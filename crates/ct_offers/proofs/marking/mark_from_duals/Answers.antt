use Rattle.std.proofs.Common.{suc, length, sym, ◌∙◌, eqb-true}
use Rattle.std.proofs.lemmas.Result.{on_ok_weaker}
use Rattle.ct_offers.specs.Inside.Marking.{AreTestedAtWeights}
use Rattle.ct_offers.proofs.MarkingLemmas.{keeps-trans}
use Rattle.ct_offers.proofs.DualLemmas.{by_duals_more, tested_at_all, tested_without}
use Rattle.ct_offers.proofs.marking.mark_from_duals.Goals as goal

pub returns-then-is_empty-clause-tested : goal.returns-then-is_empty-clause-tested
returns-then-is_empty-clause-tested c =
    tested_without c.args.supports.now c.args.bounds.now c.args.work.now c.args.entry
    (eqb-true (length c.args.supports.now) 0 (sym c.is_empty.ensures ∙ c.if-is_empty.true))

pub returns-clause-tested : goal.returns-clause-tested
returns-clause-tested c =
    let supports = c.args.supports.now in
    let bounds = c.args.bounds.now in
    let first = c.mark_by_duals.new.work in
    let second = c.mark_by_duals-2.new.work in
    let third = c.mark_each_weight.new.work in
    let kept = c.mark_each_weight.ensures.kept in
    on_ok_weaker c.mark_each_weight.result
    (λ (tested : AreTestedAtWeights supports bounds third c.args.entry (suc c.args.entry.n)).
    tested_at_all supports bounds third c.args.entry c.unweighted-same.result c.unweighted_and_nearer-nearer.result
    c.unweighted-same.ensures c.unweighted_and_nearer-nearer.ensures
    (by_duals_more supports bounds first third c.args.entry c.unweighted-same.result
    (keeps-trans first second third c.in_ok-mark_by_duals-2.ensures.kept kept) c.in_ok-mark_by_duals.ensures.tested)
    (by_duals_more supports bounds second third c.args.entry c.unweighted_and_nearer-nearer.result kept c.in_ok-mark_by_duals-2.ensures.tested)
    tested)
    c.mark_each_weight.ensures.tested

pub returns-clause-kept : goal.returns-clause-kept
returns-clause-kept c =
    keeps-trans c.args.work.now c.mark_by_duals-2.new.work c.mark_each_weight.new.work
    (keeps-trans c.args.work.now c.mark_by_duals.new.work c.mark_by_duals-2.new.work c.in_ok-mark_by_duals.ensures.kept c.in_ok-mark_by_duals-2.ensures.kept)
    c.mark_each_weight.ensures.kept

pub mark_by_duals-requires : goal.mark_by_duals-requires
mark_by_duals-requires c = record { places = c.requires.places; stand = c.requires.stand; true_bounds = c.requires.true_bounds }

pub mark_by_duals-requires-2 : goal.mark_by_duals-requires-2
mark_by_duals-requires-2 c = record { places = c.requires.places; stand = c.requires.stand; true_bounds = c.requires.true_bounds }

pub mark_each_weight-requires : goal.mark_each_weight-requires
mark_each_weight-requires c = record { entry = c.requires.entry; places = c.requires.places; stand = c.requires.stand; true_bounds = c.requires.true_bounds }

pub returns-in_err-mark_by_duals-2-clause-kept : goal.returns-in_err-mark_by_duals-2-clause-kept
returns-in_err-mark_by_duals-2-clause-kept c =
    keeps-trans c.args.work.now c.mark_by_duals.new.work c.mark_by_duals-2.new.work c.in_ok-mark_by_duals.ensures.kept c.in_err-mark_by_duals-2.ensures.kept

pub returns-in_err-mark_by_duals-clause-kept : goal.returns-in_err-mark_by_duals-clause-kept
returns-in_err-mark_by_duals-clause-kept c = c.in_err-mark_by_duals.ensures.kept
