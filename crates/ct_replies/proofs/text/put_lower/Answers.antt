use Rattle.std.proofs.Common.{ℕ, ◌++◌, ap, ◌∙◌}
use Rattle.std.specs.Fmt.{decimal}
use Rattle.ct_text.proofs.GrowingTexts.{Grows-trans, Grows-stays}
use Rattle.ct_replies.proofs.Puts.{puts-last}
use Rattle.ct_replies.proofs.text.put_lower.Goals as goal

pub returns-clause-ok : goal.returns-clause-ok
returns-clause-ok c =
    puts-last c.put_entry.result _ _ _ _ _ _ _
    (c.in_ok-put_number.ensures.ok ∙ ap (λ (k : ℕ). c.args.text.now.items ++ decimal k) c.from.ensures) c.in_ok-extend_from_slice.ensures.items
    c.put_entry.ensures.ok

pub returns-clause-grown : goal.returns-clause-grown
returns-clause-grown c =
    Grows-trans _ _ _ (Grows-trans _ _ _ c.in_ok-put_number.ensures.grown (_, c.in_ok-extend_from_slice.ensures.items)) c.put_entry.ensures.grown

pub returns-in_err-extend_from_slice-clause-grown : goal.returns-in_err-extend_from_slice-clause-grown
returns-in_err-extend_from_slice-clause-grown c = Grows-stays _ _ _ c.in_ok-put_number.ensures.grown c.in_err-extend_from_slice.ensures.items
