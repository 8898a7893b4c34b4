use Rattle.std.proofs.Common.{sym, ◌∙◌}
use Rattle.std.proofs.lemmas.Option.{none-some}
use Rattle.std.proofs.lemmas.Result.{on_ok_weaker}
use Rattle.ct_rules.specs.Listing.{rules_alone}
use Rattle.ct_offers.specs.Inside.Marking.{AreTestedJuxtaposition, AreTestedFromDuals}
use Rattle.ct_offers.proofs.MarkingLemmas.{keeps-trans, all_tested_more, by_weight_more, sum_rests, sum_not_upper}
use Rattle.ct_offers.proofs.TestedLemmas.{tested_by_rules}
use Rattle.ct_offers.proofs.DualLemmas.{below-not_above, tested_from_plain}
use Rattle.ct_offers.proofs.marking.mark_dependents.Goals as goal

pub returns-in-Lower-None-clause-tested : goal.returns-in-Lower-None-clause-tested
returns-in-Lower-None-clause-tested c =
    let supports = c.args.supports.now in
    let bounds = c.args.bounds.now in
    let first = c.mark_by_resting.new.work in
    let second = c.mark_by_weight.new.work in
    let third = c.mark_juxtaposition.new.work in
    let kept = c.mark_juxtaposition.ensures.kept in
    on_ok_weaker c.mark_juxtaposition.result
    (λ (tested : AreTestedJuxtaposition bounds third c.args.entry).
    tested_by_rules supports bounds third c.args.side c.args.entry
    (all_tested_more supports bounds first third c.args.entry (rules_alone (c.args.side, c.args.entry)) (keeps-trans first second third c.in_ok-mark_by_weight.ensures.kept kept) c.in_ok-mark_by_resting.ensures.tested)
    (by_weight_more supports bounds second third (c.args.side, c.args.entry) kept c.in_ok-mark_by_weight.ensures.tested)
    (λ m k f same there rests. tested supports m k f there rests)
    (λ up. absurd (below-not_above c.args.side c.in-Lower-None.is-0 up)))
    c.mark_juxtaposition.ensures.tested

pub returns-in-Lower-Some-clause-tested : goal.returns-in-Lower-Some-clause-tested
returns-in-Lower-Some-clause-tested c =
    let supports = c.args.supports.now in
    let bounds = c.args.bounds.now in
    tested_by_rules supports bounds c.mark_by_weight.new.work c.args.side c.args.entry
    (all_tested_more supports bounds c.mark_by_resting.new.work c.mark_by_weight.new.work c.args.entry (rules_alone (c.args.side, c.args.entry)) c.in_ok-mark_by_weight.ensures.kept c.in_ok-mark_by_resting.ensures.tested)
    c.in_ok-mark_by_weight.ensures.tested
    (λ m k f same there rests. absurd (none-some _ (sym (sum_rests supports m k f c.args.entry rests) ∙ c.in-Lower-Some.is-1)))
    (λ up. absurd (below-not_above c.args.side c.in-Lower-Some.is-0 up))

pub returns-in-Upper-None-clause-tested : goal.returns-in-Upper-None-clause-tested
returns-in-Upper-None-clause-tested c =
    let supports = c.args.supports.now in
    let bounds = c.args.bounds.now in
    tested_by_rules supports bounds c.mark_by_weight.new.work c.args.side c.args.entry
    (all_tested_more supports bounds c.mark_by_resting.new.work c.mark_by_weight.new.work c.args.entry (rules_alone (c.args.side, c.args.entry)) c.in_ok-mark_by_weight.ensures.kept c.in_ok-mark_by_resting.ensures.tested)
    c.in_ok-mark_by_weight.ensures.tested
    (λ m k f same there rests. absurd (sum_not_upper m k (same ∙ c.in-Upper-None.is-0)))
    (λ up. tested_from_plain supports bounds c.mark_by_weight.new.work c.args.entry c.in-Upper-None.is-1)

pub returns-in-Lower-None-clause-kept : goal.returns-in-Lower-None-clause-kept
returns-in-Lower-None-clause-kept c =
    keeps-trans c.args.work.now c.mark_by_weight.new.work c.mark_juxtaposition.new.work
    (keeps-trans c.args.work.now c.mark_by_resting.new.work c.mark_by_weight.new.work c.in_ok-mark_by_resting.ensures.kept c.in_ok-mark_by_weight.ensures.kept)
    c.mark_juxtaposition.ensures.kept

pub mark_by_resting-requires : goal.mark_by_resting-requires
mark_by_resting-requires c = record { entry = c.requires.entry; stand = c.requires.stand; true_bounds = c.requires.true_bounds }

pub mark_by_weight-requires : goal.mark_by_weight-requires
mark_by_weight-requires c = record { entry = c.requires.entry; stand = c.requires.stand; true_bounds = c.requires.true_bounds }

pub mark_juxtaposition-requires : goal.mark_juxtaposition-requires
mark_juxtaposition-requires c = record { entry = c.requires.entry; plain = c.in-Lower-None.is-1; true_bounds = c.requires.true_bounds }

pub mark_from_duals-requires : goal.mark_from_duals-requires
mark_from_duals-requires c = record { entry = c.requires.entry; places = c.requires.places; stand = c.requires.stand; true_bounds = c.requires.true_bounds }

pub returns-in-Lower-Some-clause-kept : goal.returns-in-Lower-Some-clause-kept
returns-in-Lower-Some-clause-kept c =
    keeps-trans c.args.work.now c.mark_by_resting.new.work c.mark_by_weight.new.work c.in_ok-mark_by_resting.ensures.kept c.in_ok-mark_by_weight.ensures.kept

pub returns-in-Upper-None-clause-kept : goal.returns-in-Upper-None-clause-kept
returns-in-Upper-None-clause-kept c =
    keeps-trans c.args.work.now c.mark_by_resting.new.work c.mark_by_weight.new.work c.in_ok-mark_by_resting.ensures.kept c.in_ok-mark_by_weight.ensures.kept

pub returns-in_err-mark_by_weight-clause-kept : goal.returns-in_err-mark_by_weight-clause-kept
returns-in_err-mark_by_weight-clause-kept c =
    keeps-trans c.args.work.now c.mark_by_resting.new.work c.mark_by_weight.new.work c.in_ok-mark_by_resting.ensures.kept c.in_err-mark_by_weight.ensures.kept

pub returns-in_err-mark_by_resting-clause-kept : goal.returns-in_err-mark_by_resting-clause-kept
returns-in_err-mark_by_resting-clause-kept c = c.in_err-mark_by_resting.ensures.kept

pub returns-in-Upper-Some-clause-tested : goal.returns-in-Upper-Some-clause-tested
returns-in-Upper-Some-clause-tested c =
    let supports = c.args.supports.now in
    let bounds = c.args.bounds.now in
    let first = c.mark_by_resting.new.work in
    let second = c.mark_by_weight.new.work in
    let third = c.mark_from_duals.new.work in
    let kept = c.mark_from_duals.ensures.kept in
    on_ok_weaker c.mark_from_duals.result
    (λ (tested : AreTestedFromDuals supports bounds third c.args.entry).
    tested_by_rules supports bounds third c.args.side c.args.entry
    (all_tested_more supports bounds first third c.args.entry (rules_alone (c.args.side, c.args.entry)) (keeps-trans first second third c.in_ok-mark_by_weight.ensures.kept kept) c.in_ok-mark_by_resting.ensures.tested)
    (by_weight_more supports bounds second third (c.args.side, c.args.entry) kept c.in_ok-mark_by_weight.ensures.tested)
    (λ m k f same there rests. absurd (sum_not_upper m k (same ∙ c.in-Upper-Some.is-0)))
    (λ up. tested))
    c.mark_from_duals.ensures.tested

pub returns-in-Upper-Some-clause-kept : goal.returns-in-Upper-Some-clause-kept
returns-in-Upper-Some-clause-kept c =
    keeps-trans c.args.work.now c.mark_by_weight.new.work c.mark_from_duals.new.work
    (keeps-trans c.args.work.now c.mark_by_resting.new.work c.mark_by_weight.new.work c.in_ok-mark_by_resting.ensures.kept c.in_ok-mark_by_weight.ensures.kept)
    c.mark_from_duals.ensures.kept
