use Rattle.std.proofs.Common.{ap, sym, subst, ◌∙◌}
use Rattle.std.specs.Prelude.{option_map}
use Rattle.std.proofs.lemmas.Bool.{false≢true}
use Rattle.std.proofs.lemmas.Result.{on_ok_weaker}
use Rattle.ct_rules.specs.declared.rule.Rule.{Rule}
use Rattle.ct_offers.specs.Inside.Marking.{IsTestedAt}
use Rattle.ct_offers.proofs.DualLemmas.{rests_on_none, rests_on_dual}
use Rattle.ct_offers.proofs.marking.mark_by_dual.Goals as goal

pub returns-in_default-clause-tested : goal.returns-in_default-clause-tested
returns-in_default-clause-tested c rests =
    absurd (rests_on_none c.args.supports.now c.args.place c.args.entry c.args.from
    (sym c.dual_behind.ensures ∙ ap (option_map (λ dual. dual.now)) c.in_default.is) rests)

pub returns-then-not-rests_on-clause-tested : goal.returns-then-not-rests_on-clause-tested
returns-then-not-rests_on-clause-tested c rests =
    let there = rests_on_dual c.args.supports.now c.args.place c.args.entry c.args.from c.in-Some.dual.now
    (sym c.dual_behind.ensures ∙ ap (option_map (λ dual. dual.now)) c.in-Some.is) rests in
    absurd (false≢true (sym c.if-not-rests_on.true ∙ c.rests_on.ensures.1 there))

pub returns-clause-tested : goal.returns-clause-tested
returns-clause-tested c =
    let supports = c.args.supports.now in
    let bounds = c.args.bounds.now in
    on_ok_weaker c.test.result
    (λ (tested : IsTestedAt supports bounds c.test.new.work c.given_rule-rule.result c.args.entry) rests.
    subst (λ (r : Rule). IsTestedAt supports bounds c.test.new.work r c.args.entry) c.given_rule-rule.ensures.rule tested)
    c.test.ensures.tested

pub test-requires : goal.test-requires
test-requires c = record { stand = c.requires.stand; true_bounds = c.requires.true_bounds }

pub returns-clause-kept : goal.returns-clause-kept
returns-clause-kept c = c.test.ensures.kept
