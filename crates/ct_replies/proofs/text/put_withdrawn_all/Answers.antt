use Rattle.std.proofs.Common.{ℕ, ◌++◌, ap, ◌∙◌}
use Rattle.std.specs.Fmt.{decimal}
use Rattle.ct_text.proofs.GrowingTexts.{puts-five, Grows-trans, Grows-stays}
use Rattle.ct_replies.proofs.Puts.{Grows-none}
use Rattle.ct_replies.proofs.text.put_withdrawn_all.Goals as goal

pub returns-clause-ok : goal.returns-clause-ok
returns-clause-ok c =
    puts-five _ _ _ _ _ _ _ _ _ _ _
    c.in_ok-extend_from_slice.ensures.items c.in_ok-extend_from_slice-2.ensures.items c.in_ok-extend_from_slice-3.ensures.items
    (c.in_ok-put_number.ensures.ok ∙ ap (λ (k : ℕ). c.extend_from_slice-3.new.self.items ++ decimal k) c.from.ensures) c.in_ok-push.ensures.items

pub returns-clause-grown : goal.returns-clause-grown
returns-clause-grown c =
    Grows-trans _ _ _
    (Grows-trans _ _ _ (Grows-trans _ _ _ (Grows-trans _ _ _ (_, c.in_ok-extend_from_slice.ensures.items) (_, c.in_ok-extend_from_slice-2.ensures.items)) (_, c.in_ok-extend_from_slice-3.ensures.items))
    c.in_ok-put_number.ensures.grown) (_, c.in_ok-push.ensures.items)

pub returns-in_err-extend_from_slice-2-clause-grown : goal.returns-in_err-extend_from_slice-2-clause-grown
returns-in_err-extend_from_slice-2-clause-grown c = Grows-stays _ _ _ (_, c.in_ok-extend_from_slice.ensures.items) c.in_err-extend_from_slice-2.ensures.items

pub returns-in_err-extend_from_slice-3-clause-grown : goal.returns-in_err-extend_from_slice-3-clause-grown
returns-in_err-extend_from_slice-3-clause-grown c =
    Grows-stays _ _ _ (Grows-trans _ _ _ (_, c.in_ok-extend_from_slice.ensures.items) (_, c.in_ok-extend_from_slice-2.ensures.items)) c.in_err-extend_from_slice-3.ensures.items

pub returns-in_err-put_number-clause-grown : goal.returns-in_err-put_number-clause-grown
returns-in_err-put_number-clause-grown c =
    Grows-trans _ _ _ (Grows-trans _ _ _ (Grows-trans _ _ _ (_, c.in_ok-extend_from_slice.ensures.items) (_, c.in_ok-extend_from_slice-2.ensures.items)) (_, c.in_ok-extend_from_slice-3.ensures.items))
    c.in_err-put_number.ensures.grown

pub returns-in_err-push-clause-grown : goal.returns-in_err-push-clause-grown
returns-in_err-push-clause-grown c =
    Grows-stays _ _ _
    (Grows-trans _ _ _ (Grows-trans _ _ _ (Grows-trans _ _ _ (_, c.in_ok-extend_from_slice.ensures.items) (_, c.in_ok-extend_from_slice-2.ensures.items)) (_, c.in_ok-extend_from_slice-3.ensures.items))
    c.in_ok-put_number.ensures.grown) c.in_err-push.ensures.items

pub returns-in_err-extend_from_slice-clause-grown : goal.returns-in_err-extend_from_slice-clause-grown
returns-in_err-extend_from_slice-clause-grown c = Grows-none _ _ c.in_err-extend_from_slice.ensures.items
