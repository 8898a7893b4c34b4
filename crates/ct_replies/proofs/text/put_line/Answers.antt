use Rattle.ct_text.proofs.GrowingTexts.{puts-more, Grows-trans, Grows-stays}
use Rattle.ct_replies.proofs.text.put_line.Goals as goal

pub returns-clause-ok : goal.returns-clause-ok
returns-clause-ok c = puts-more _ _ _ _ _ c.in_ok-put_bounds.ensures.ok c.in_ok-push.ensures.items

pub returns-clause-grown : goal.returns-clause-grown
returns-clause-grown c = Grows-trans _ _ _ c.in_ok-put_bounds.ensures.grown (_, c.in_ok-push.ensures.items)

pub returns-in_err-push-clause-grown : goal.returns-in_err-push-clause-grown
returns-in_err-push-clause-grown c = Grows-stays _ _ _ c.in_ok-put_bounds.ensures.grown c.in_err-push.ensures.items
