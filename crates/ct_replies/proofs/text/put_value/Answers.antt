use Rattle.ct_text.proofs.GrowingTexts.{Grows-trans, Grows-stays}
use Rattle.ct_replies.proofs.Puts.{puts-number}
use Rattle.ct_replies.proofs.text.put_value.Goals as goal

pub returns-clause-ok : goal.returns-clause-ok
returns-clause-ok c =
    puts-number c.put_number.result _ _ _ _ _ _ _ _
    c.in_ok-put_entry.ensures.ok c.in_ok-extend_from_slice.ensures.items c.from.ensures c.put_number.ensures.ok

pub returns-clause-grown : goal.returns-clause-grown
returns-clause-grown c =
    Grows-trans _ _ _ (Grows-trans _ _ _ c.in_ok-put_entry.ensures.grown (_, c.in_ok-extend_from_slice.ensures.items)) c.put_number.ensures.grown

pub returns-in_err-extend_from_slice-clause-grown : goal.returns-in_err-extend_from_slice-clause-grown
returns-in_err-extend_from_slice-clause-grown c = Grows-stays _ _ _ c.in_ok-put_entry.ensures.grown c.in_err-extend_from_slice.ensures.items
