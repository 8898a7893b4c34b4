use Rattle.std.proofs.Common.{ℕ, [], ◌++◌, Option, append-nil, sym, ap, ◌∙◌}
use Rattle.std.specs.Prelude.{codes}
use Rattle.std.proofs.lemmas.Result.{on_ok_weaker}
use Rattle.ct_text.specs.Number.{spaced}
use Rattle.ct_text.proofs.GrowingTexts.{puts-more, Grows-trans}
use Rattle.ct_piece.specs.Text.{size_text}
use Rattle.ct_piece.proofs.text.put_size.Goals as goal

pub returns-in_ok-extend_from_slice-in-Some-clause-ok : goal.returns-in_ok-extend_from_slice-in-Some-clause-ok
returns-in_ok-extend_from_slice-in-Some-clause-ok c =
    let text = c.args.text.now.items in
    let put = c.extend_from_slice.new.self.items in
    on_ok_weaker c.put_spaced.result
    (λ more. puts-more text (codes " size") (spaced c.in-Some.size) put c.put_spaced.new.text.items
    c.in_ok-extend_from_slice-in-Some.ensures.items (more ∙ ap (λ (k : ℕ). put ++ spaced k) c.from.ensures)
    ∙ ap (λ (size : Option ℕ). text ++ size_text size) (sym c.in-Some.is))
    c.put_spaced.ensures.ok

pub returns-in_ok-extend_from_slice-in-Some-clause-grown : goal.returns-in_ok-extend_from_slice-in-Some-clause-grown
returns-in_ok-extend_from_slice-in-Some-clause-grown c = Grows-trans _ _ _ (_, c.in_ok-extend_from_slice-in-Some.ensures.items) c.put_spaced.ensures.grown

pub returns-in_err-extend_from_slice-in-Some-clause-grown : goal.returns-in_err-extend_from_slice-in-Some-clause-grown
returns-in_err-extend_from_slice-in-Some-clause-grown c = ([], c.in_err-extend_from_slice-in-Some.ensures.items ∙ sym (append-nil c.args.text.now.items))
