use Rattle.std.proofs.Common.{◌≡◌, ◌++◌, ℕ, List, [], ◌∷◌, map, ap, ap₂, sym, subst, ◌∙◌}
use Rattle.std.specs.Prelude.{codes, slice_get}
use Rattle.std.specs.List.{flat_map}
use Rattle.ct_text.specs.declared.document_lines.TheConstants.{LINE_FEED}
use Rattle.ct_rules.specs.Derivation.{LineValue}
use Rattle.ct_derive.specs.Derivation.{DerivationValue, AreOrdered}
use Rattle.ct_derive.specs.Text.{block_text, lines_text, derivation_text}
use Rattle.ct_derive.proofs.printing.print.Goals as goal

-- the parts of a document, one after another
parts_of_document : {X : Type 0} (id document : X → List ℕ) (pieces : List X) (d : DerivationValue) (places : List ℕ) (ids : List (List ℕ))
    (lines : List LineValue) (t t1 t2 t3 t4 t5 t6 : List ℕ) → places ≡ d.pieces → ids ≡ map id pieces → lines ≡ d.lines → t ≡ []
    → t1 ≡ t ++ codes "derivation" → t2 ≡ t1 ++ LINE_FEED ∷ [] → t3 ≡ t2 ++ flat_map (λ p. block_text id document (slice_get pieces p)) places
    → t4 ≡ t3 ++ lines_text ids 1 lines → t5 ≡ t4 ++ codes "done" → t6 ≡ t5 ++ LINE_FEED ∷ [] → t6 ≡ derivation_text id document pieces d
parts_of_document id document pieces d places ids lines t t1 t2 t3 t4 t5 t6 places-are ids-are lines-are empty one two three four five six =
    let blocks = λ (ps : List ℕ). flat_map (λ p. block_text id document (slice_get pieces p)) ps in
    let a1 = codes "derivation" in
    let a2 = a1 ++ LINE_FEED ∷ [] in
    let a3 = a2 ++ blocks d.pieces in
    let a4 = a3 ++ lines_text (map id pieces) 1 d.lines in
    let s1 : t1 ≡ a1 = one ∙ ap (λ x. x ++ a1) empty in
    let s2 : t2 ≡ a2 = two ∙ ap (λ x. x ++ LINE_FEED ∷ []) s1 in
    let s3 : t3 ≡ a3 = three ∙ ap₂ (λ x ps. x ++ blocks ps) s2 places-are in
    let s4 : t4 ≡ a4 = four ∙ ap (λ x. x ++ lines_text ids 1 lines) s3 ∙ ap₂ (λ is ls. a3 ++ lines_text is 1 ls) ids-are lines-are in
    let s5 : t5 ≡ a4 ++ codes "done" = five ∙ ap (λ x. x ++ codes "done") s4 in
    six ∙ ap (λ x. x ++ LINE_FEED ∷ []) s5

pub put_lines-requires : goal.put_lines-requires
put_lines-requires g c =
    subst (λ (lines : List LineValue). AreOrdered lines)
    (sym (c.deref-3.ensures.value ∙ ap (λ (d : DerivationValue). d.lines) c.derivation.view_is)) c.requires

pub returns : goal.returns
returns g c =
    parts_of_document g.P.ShownPiece.id_of g.P.ShownPiece.document_of c.args.pieces.now c.args.derivation.now c.deref.result.now c.deref-2.result.now
    c.deref-3.result.now c.new-text.result.items c.extend_from_slice.new.self.items c.push.new.self.items c.put_blocks.new.text.items
    c.put_lines.new.text.items c.extend_from_slice-2.new.self.items c.push-2.new.self.items
    (c.deref.ensures.value ∙ ap (λ (d : DerivationValue). d.pieces) c.derivation.view_is) (c.deref-2.ensures.value ∙ c.in_ok-ids.ensures)
    (c.deref-3.ensures.value ∙ ap (λ (d : DerivationValue). d.lines) c.derivation.view_is) c.new-text.ensures.items
    c.in_ok-extend_from_slice.ensures.items c.in_ok-push.ensures.items c.in_ok-put_blocks.ensures c.in_ok-put_lines.ensures
    c.in_ok-extend_from_slice-2.ensures.items c.in_ok-push-2.ensures.items
