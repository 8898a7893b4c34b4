use Rattle.std.proofs.Common.{◌≡◌, ℕ, List, [], ◌∷◌, ◌++◌, ap, ap₂, sym, subst, ◌∙◌}
use Rattle.std.specs.Fmt.{decimal}
use Rattle.std.proofs.lemmas.Result.{on_ok_weaker}
use Rattle.ct_text.specs.Growing.{Grows}
use Rattle.ct_text.proofs.GrowingTexts.{Grows-trans, regroup-four}
use Rattle.ct_text.proofs.append.put_pair.Goals as goal

-- the text is given with its parts, and the numbers as they are put
put-four : (text opened first comma new : List ℕ) (n d n-put d-put : ℕ) → opened ≡ text ++ 65 ∷ 40 ∷ [] → first ≡ opened ++ decimal n-put
    → comma ≡ first ++ 44 ∷ [] → n-put ≡ n → d-put ≡ d → new ≡ comma ++ decimal d-put
    → new ≡ text ++ (((65 ∷ 40 ∷ []) ++ decimal n ++ 44 ∷ []) ++ decimal d)
put-four text opened first comma new n d n-put d-put opened-is first-is comma-is n-is d-is new-is =
    new-is
    ∙ ap (λ l. l ++ decimal d-put) (comma-is ∙ ap (λ l. l ++ 44 ∷ []) (first-is ∙ ap (λ l. l ++ decimal n-put) opened-is))
    ∙ regroup-four text (65 ∷ 40 ∷ []) (decimal n-put) (44 ∷ []) (decimal d-put)
    ∙ ap₂ (λ i j. text ++ (((65 ∷ 40 ∷ []) ++ decimal i ++ 44 ∷ []) ++ decimal j)) n-is d-is

pub returns-clause-ok : goal.returns-clause-ok
returns-clause-ok c =
    on_ok_weaker c.put_number-2.result
    (put-four c.args.text.now.items c.extend_from_slice.new.self.items c.put_number.new.text.items c.extend_from_slice-2.new.self.items
    c.put_number-2.new.text.items c.args.n c.args.d c.from.result c.from-2.result c.in_ok-extend_from_slice.ensures.items c.in_ok-put_number.ensures.ok
    c.in_ok-extend_from_slice-2.ensures.items c.from.ensures c.from-2.ensures)
    c.put_number-2.ensures.ok

pub returns-clause-grown : goal.returns-clause-grown
returns-clause-grown c =
    Grows-trans _ _ _
    (Grows-trans _ _ _ (Grows-trans _ _ _ (_, c.in_ok-extend_from_slice.ensures.items) c.in_ok-put_number.ensures.grown)
    (_, c.in_ok-extend_from_slice-2.ensures.items))
    c.put_number-2.ensures.grown

pub returns-in_err-extend_from_slice-2-clause-grown : goal.returns-in_err-extend_from_slice-2-clause-grown
returns-in_err-extend_from_slice-2-clause-grown c =
    subst (Grows c.args.text.now.items) (sym c.in_err-extend_from_slice-2.ensures.items)
    (Grows-trans _ _ _ (_, c.in_ok-extend_from_slice.ensures.items) c.in_ok-put_number.ensures.grown)
