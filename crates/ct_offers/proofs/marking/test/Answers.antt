use Rattle.std.proofs.Common.{sym, eqb-true, ◌∙◌}
use Rattle.ct_slots.specs.Number.{bound_of}
use Rattle.ct_offers.proofs.LimitLemmas.{settled_satisfied}
use Rattle.ct_offers.proofs.marking.test.Goals as goal

pub returns-then-is_settled-clause-tested : goal.returns-then-is_settled-clause-tested
returns-then-is_settled-clause-tested c = λ entry unmarked.
    settled_satisfied c.args.supports.now (bound_of c.args.bounds.now) c.args.rule c.args.entry c.requires.stand c.requires.true_bounds entry
    (eqb-true _ _ (sym c.is_settled.ensures ∙ c.if-is_settled.true))

pub returns-clause-tested : goal.returns-clause-tested
returns-clause-tested c = c.mark_where_better.ensures.tested

pub returns-clause-kept : goal.returns-clause-kept
returns-clause-kept c = c.mark_where_better.ensures.kept
