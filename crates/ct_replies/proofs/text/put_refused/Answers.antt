use Rattle.ct_text.proofs.GrowingTexts.{puts-three, Grows-trans, Grows-stays}
use Rattle.ct_replies.proofs.Puts.{Grows-none}
use Rattle.ct_replies.proofs.text.put_refused.Goals as goal

pub returns-clause-ok : goal.returns-clause-ok
returns-clause-ok c =
    puts-three _ _ _ _ _ _ _
    c.in_ok-extend_from_slice.ensures.items c.in_ok-put_refusal.ensures.ok c.in_ok-push.ensures.items

pub returns-clause-grown : goal.returns-clause-grown
returns-clause-grown c = Grows-trans _ _ _ (Grows-trans _ _ _ (_, c.in_ok-extend_from_slice.ensures.items) c.in_ok-put_refusal.ensures.grown) (_, c.in_ok-push.ensures.items)

pub returns-in_err-put_refusal-clause-grown : goal.returns-in_err-put_refusal-clause-grown
returns-in_err-put_refusal-clause-grown c = Grows-trans _ _ _ (_, c.in_ok-extend_from_slice.ensures.items) c.in_err-put_refusal.ensures.grown

pub returns-in_err-push-clause-grown : goal.returns-in_err-push-clause-grown
returns-in_err-push-clause-grown c = Grows-stays _ _ _ (Grows-trans _ _ _ (_, c.in_ok-extend_from_slice.ensures.items) c.in_ok-put_refusal.ensures.grown) c.in_err-push.ensures.items

pub returns-in_err-extend_from_slice-clause-grown : goal.returns-in_err-extend_from_slice-clause-grown
returns-in_err-extend_from_slice-clause-grown c = Grows-none _ _ c.in_err-extend_from_slice.ensures.items
