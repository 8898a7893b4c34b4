use Rattle.std.proofs.Common.{◌≡◌, ℕ, List, subst, sym, ap, ◌∙◌}
use Rattle.std.proofs.lemmas.List.Elements.{same_from_all_zip}
use Rattle.ct_words.specs.Code.{CodeValue, IsSoundCode}
use Rattle.ct_words.proofs.code.Code.try_copy.Goals as goal

pub invariant_of-result : goal.invariant_of-result
invariant_of-result c =
    let inside = c.self.inside in
    let same : c.in_ok-words.words.items ≡ inside.words.items = same_from_all_zip _ _ _ c.in_ok-words.ensures.cases.0 (λ x y r. r) in
    subst (λ (ws : List ℕ). IsSoundCode (record { n = inside.n; d = inside.d; w = inside.w; words = ws })) (sym same) c.self.invariant

pub returns : goal.returns
returns c =
    let inside = c.self.inside in
    let same : c.in_ok-words.words.items ≡ inside.words.items = same_from_all_zip _ _ _ c.in_ok-words.ensures.cases.0 (λ x y r. r) in
    let copy : List ℕ → CodeValue = λ ws. record { n = inside.n; d = inside.d; w = inside.w; words = ws } in
    ap copy same ∙ c.self.view_is
