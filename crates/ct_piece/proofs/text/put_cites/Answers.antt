use Rattle.std.proofs.Common.{◌≡◌, ℕ, ◌==◌, List, [], ◌∷◌, ◌++◌, false, length, refl, sym, ap, ◌∙◌}
use Rattle.std.specs.Prelude.{codes}
use Rattle.std.proofs.lemmas.Result.{on_ok_weaker}
use Rattle.ct_text.specs.Number.{spaced}
use Rattle.ct_text.proofs.GrowingTexts.{puts-more}
use Rattle.ct_piece.specs.Text.{cites_text}
use Rattle.ct_piece.proofs.text.put_cites.Goals as goal

-- where a text is cited, the number of the texts is told
some-cites : (cites : List (List ℕ)) → (length cites == 0) ≡ false → codes " cites" ++ spaced (length cites) ≡ cites_text cites
some-cites [] none = cc
some-cites (cite ∷ cites) some = refl

pub returns : goal.returns
returns c =
    let text = c.args.text.now.items in
    let cites = c.args.cites.now in
    on_ok_weaker c.put_spaced.result
    (λ more. puts-more text (codes " cites") (spaced (length cites)) c.extend_from_slice.new.self.items c.put_spaced.new.text.items
    c.in_ok-extend_from_slice.ensures.items more
    ∙ ap (λ (l : List ℕ). text ++ l) (some-cites cites (sym c.is_empty.ensures ∙ c.if-is_empty.false)))
    c.put_spaced.ensures.ok
