use Rattle.std.proofs.Common.{ℕ, sym, subst, ◌∙◌}
use Rattle.std.proofs.lemmas.Result.{on_ok_weaker}
use Rattle.ct_words.specs.declared.claim.Side.{Side}
use Rattle.ct_rule_parts.specs.Slot.{IsNoBetter}
use Rattle.ct_slots.specs.Number.{bound_of}
use Rattle.ct_slots.specs.Worklist.{IsMarked}
use Rattle.ct_offers.proofs.SatisfiedLemmas.{satisfied_by_none, satisfied_by_value}
use Rattle.ct_offers.proofs.marking.mark_where_better.Goals as goal

pub returns-in_default-clause-tested : goal.returns-in_default-clause-tested
returns-in_default-clause-tested c = λ entry unmarked.
    satisfied_by_none c.args.supports.now (bound_of c.args.bounds.now) c.args.rule c.args.entry (sym c.offer.ensures.value ∙ c.in_default.is)

pub returns-then-is_better-clause-tested : goal.returns-then-is_better-clause-tested
returns-then-is_better-clause-tested c =
    let side = c.rule_side-side.result in
    on_ok_weaker c.mark.result
    (λ (marked : IsMarked c.mark.new.self (side, c.args.entry)) entry unmarked.
    absurd (unmarked (subst (λ (s : Side). IsMarked c.mark.new.self (s, c.args.entry)) c.rule_side-side.ensures marked)))
    c.mark.ensures.marked

pub returns-then-is_better-clause-kept : goal.returns-then-is_better-clause-kept
returns-then-is_better-clause-kept c = λ t entry marked. c.mark.ensures.kept t marked

pub returns-else-is_better-clause-tested : goal.returns-else-is_better-clause-tested
returns-else-is_better-clause-tested c = λ entry unmarked.
    let f = bound_of c.args.bounds.now in
    let e = c.args.entry in
    let value = c.in-Some.value in
    satisfied_by_value c.args.supports.now f c.args.rule e value (sym c.offer.ensures.value ∙ c.in-Some.is)
    (subst (λ (s : Side). IsNoBetter s value (f (s, e))) c.rule_side-side.ensures
    (subst (λ (u : ℕ). IsNoBetter c.rule_side-side.result value u) c.bound.ensures c.if-is_better.ensures))
