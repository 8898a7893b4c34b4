use Rattle.std.proofs.lemmas.Result.{on_ok_weaker}
use Rattle.ct_rules.specs.declared.rule.Rule.TheVariants.{L9, U9}
use Rattle.ct_offers.specs.Inside.Marking.{IsTestedAt}
use Rattle.ct_offers.proofs.MarkingLemmas.{keeps-trans}
use Rattle.ct_offers.proofs.ByWeightLemmas.{tested_by_none, marked_below, marked_above}
use Rattle.ct_offers.proofs.marking.mark_by_weight.Goals as goal

pub returns-in_default-clause-tested : goal.returns-in_default-clause-tested
returns-in_default-clause-tested c =
    tested_by_none c.args.supports.now c.args.bounds.now c.args.work.now c.args.side c.args.entry c.in_default.is

pub returns-in_ok-test-in-Lower-clause-tested : goal.returns-in_ok-test-in-Lower-clause-tested
returns-in_ok-test-in-Lower-clause-tested c =
    on_ok_weaker c.test-in-Lower.result
    (λ (tested : IsTestedAt c.args.supports.now c.args.bounds.now c.test-in-Lower.new.work (L9 c.in-Some.w) c.unweighted_and_nearer-nearer.result).
    marked_below c.args.supports.now c.args.bounds.now c.test.new.work c.test-in-Lower.new.work c.args.side c.args.entry
    c.unweighted-same.result c.unweighted_and_nearer-nearer.result c.in-Some.w c.in-Lower.is c.in-Some.is c.unweighted-same.ensures
    c.unweighted_and_nearer-nearer.ensures c.test-in-Lower.ensures.kept c.in_ok-test-in-Lower.ensures.tested tested)
    c.test-in-Lower.ensures.tested

pub returns-in_ok-test-in-Lower-clause-kept : goal.returns-in_ok-test-in-Lower-clause-kept
returns-in_ok-test-in-Lower-clause-kept c =
    keeps-trans c.args.work.now c.test.new.work c.test-in-Lower.new.work c.in_ok-test-in-Lower.ensures.kept c.test-in-Lower.ensures.kept

pub returns-then-w-entry-clause-tested : goal.returns-then-w-entry-clause-tested
returns-then-w-entry-clause-tested c =
    marked_above c.args.supports.now c.args.bounds.now c.test-in-Upper.new.work c.test-in-Upper.new.work c.args.side c.args.entry
    c.unweighted-same.result c.unweighted_and_nearer-nearer.result c.in-Some.w c.in-Upper.is c.in-Some.is c.unweighted-same.ensures
    c.unweighted_and_nearer-nearer.ensures (λ t entry marked. marked) c.in_ok-test-in-Upper.ensures.tested
    (λ odd. absurd (c.if-w-entry.true odd))

pub returns-else-w-entry-clause-tested : goal.returns-else-w-entry-clause-tested
returns-else-w-entry-clause-tested c =
    on_ok_weaker c.test-in-Upper-2.result
    (λ (tested : IsTestedAt c.args.supports.now c.args.bounds.now c.test-in-Upper-2.new.work U9 c.unweighted_and_nearer-nearer.result).
    marked_above c.args.supports.now c.args.bounds.now c.test-in-Upper.new.work c.test-in-Upper-2.new.work c.args.side c.args.entry
    c.unweighted-same.result c.unweighted_and_nearer-nearer.result c.in-Some.w c.in-Upper.is c.in-Some.is c.unweighted-same.ensures
    c.unweighted_and_nearer-nearer.ensures c.test-in-Upper-2.ensures.kept c.in_ok-test-in-Upper.ensures.tested (λ odd. tested))
    c.test-in-Upper-2.ensures.tested

pub returns-else-w-entry-clause-kept : goal.returns-else-w-entry-clause-kept
returns-else-w-entry-clause-kept c =
    keeps-trans c.args.work.now c.test-in-Upper.new.work c.test-in-Upper-2.new.work c.in_ok-test-in-Upper.ensures.kept c.test-in-Upper-2.ensures.kept

pub test-requires : goal.test-requires
test-requires c = record { stand = c.requires.stand; true_bounds = c.requires.true_bounds }

pub test-requires-in-Lower : goal.test-requires-in-Lower
test-requires-in-Lower c = record { stand = c.requires.stand; true_bounds = c.requires.true_bounds }

pub test-requires-in-Upper : goal.test-requires-in-Upper
test-requires-in-Upper c = record { stand = c.requires.stand; true_bounds = c.requires.true_bounds }

pub test-requires-in-Upper-2 : goal.test-requires-in-Upper-2
test-requires-in-Upper-2 c = record { stand = c.requires.stand; true_bounds = c.requires.true_bounds }

pub returns-then-w-entry-clause-kept : goal.returns-then-w-entry-clause-kept
returns-then-w-entry-clause-kept c = c.in_ok-test-in-Upper.ensures.kept

pub returns-in_err-test-in-Lower-clause-kept : goal.returns-in_err-test-in-Lower-clause-kept
returns-in_err-test-in-Lower-clause-kept c = c.in_err-test-in-Lower.ensures.kept

pub returns-in_err-test-in-Upper-clause-kept : goal.returns-in_err-test-in-Upper-clause-kept
returns-in_err-test-in-Upper-clause-kept c = c.in_err-test-in-Upper.ensures.kept
