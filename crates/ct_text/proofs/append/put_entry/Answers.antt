use Rattle.std.proofs.Common.{◌≡◌, ℕ, List, [], ◌∷◌, ◌++◌, if◌then◌else◌, is_ok, Result, Ok, Err, ap, ◌∙◌}
use Rattle.std.specs.Prelude.{OnOk}
use Rattle.ct_text.proofs.GrowingTexts.{Grows-trans, Grows-if, regroup-three}
use Rattle.ct_text.proofs.append.put_entry.Goals as goal

-- the text is given with its parts, where the last one is put
put-three : {X E : Type 0} (put : Result X E) (text pair weight first second new : List ℕ) → first ≡ text ++ pair → second ≡ first ++ weight
    → new ≡ (if is_ok put then second ++ 41 ∷ [] else second) → OnOk put (new ≡ text ++ ((pair ++ weight) ++ 41 ∷ []))
put-three (Ok x) text pair weight first second new first-is second-is new-is =
    new-is ∙ ap (λ l. l ++ 41 ∷ []) (second-is ∙ ap (λ l. l ++ weight) first-is) ∙ regroup-three text pair weight (41 ∷ [])
put-three (Err fault) text pair weight first second new first-is second-is new-is = tt

pub returns-clause-ok : goal.returns-clause-ok
returns-clause-ok c =
    put-three c.extend_from_slice.result c.args.text.now.items _ _ c.put_pair.new.text.items c.put_weight.new.text.items c.extend_from_slice.new.self.items
    c.in_ok-put_pair.ensures.ok c.in_ok-put_weight.ensures.ok c.extend_from_slice.ensures.items

pub returns-clause-grown : goal.returns-clause-grown
returns-clause-grown c =
    Grows-trans _ _ _ (Grows-trans _ _ _ c.in_ok-put_pair.ensures.grown c.in_ok-put_weight.ensures.grown) (Grows-if _ _ _ _ c.extend_from_slice.ensures.items)

pub returns-in_err-put_weight-clause-grown : goal.returns-in_err-put_weight-clause-grown
returns-in_err-put_weight-clause-grown c = Grows-trans _ _ _ c.in_ok-put_pair.ensures.grown c.in_err-put_weight.ensures.grown
