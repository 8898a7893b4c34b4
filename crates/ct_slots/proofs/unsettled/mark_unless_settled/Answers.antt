use Rattle.std.proofs.Common.{sym, eqb-true, ◌∙◌, inl, inr}
use Rattle.ct_slots.proofs.unsettled.mark_unless_settled.Goals as goal

pub returns-then-is_settled-clause-marked : goal.returns-then-is_settled-clause-marked
returns-then-is_settled-clause-marked c = inr (eqb-true _ _ (sym c.is_settled.ensures ∙ c.if-is_settled.true))

pub returns-clause-marked : goal.returns-clause-marked
returns-clause-marked c = inl c.in_ok-mark.ensures.marked
