use Rattle.std.proofs.Common.{◌≡◌, ◌++◌, ℕ, List, [], ◌∷◌, ap, ◌∙◌}
use Rattle.std.specs.Prelude.{codes}
use Rattle.ct_text.specs.declared.document_lines.TheConstants.{LINE_FEED}
use Rattle.ct_text.specs.DocumentLines.{line_count}
use Rattle.ct_text.specs.Number.{spaced}
use Rattle.ct_derive.specs.Text.{evidence_text}
use Rattle.ct_derive.proofs.TextParts.{onto}
use Rattle.ct_derive.proofs.text.put_evidence.Goals as goal

-- the parts of a block, one after another
block : (t id document t1 t2 t3 t4 t5 t6 t7 word : List ℕ) (n : ℕ) → word ≡ id → n ≡ line_count document → t1 ≡ t ++ codes "evidence "
    → t2 ≡ t1 ++ word → t3 ≡ t2 ++ codes " lines" → t4 ≡ t3 ++ spaced n → t5 ≡ t4 ++ LINE_FEED ∷ [] → t6 ≡ t5 ++ document
    → t7 ≡ t6 ++ LINE_FEED ∷ [] → t7 ≡ t ++ evidence_text id document
block t id document t1 t2 t3 t4 t5 t6 t7 word n word-is n-is one two three four five six seven =
    let a2 = codes "evidence " ++ id in
    let a3 = a2 ++ codes " lines" in
    let a4 = a3 ++ spaced (line_count document) in
    let a5 = a4 ++ LINE_FEED ∷ [] in
    let s2 = onto t (codes "evidence ") id t1 t2 one (two ∙ ap (λ w. t1 ++ w) word-is) in
    let s3 = onto t a2 (codes " lines") t2 t3 s2 three in
    let s4 = onto t a3 (spaced (line_count document)) t3 t4 s3 (four ∙ ap (λ k. t3 ++ spaced k) n-is) in
    let s5 = onto t a4 (LINE_FEED ∷ []) t4 t5 s4 five in
    let s6 = onto t a5 document t5 t6 s5 six in
    onto t (a5 ++ document) (LINE_FEED ∷ []) t6 t7 s6 seven

pub returns : goal.returns
returns c =
    block c.args.text.now.items c.args.id c.args.document.now c.extend_from_slice.new.self.items c.extend_from_slice-2.new.self.items
    c.extend_from_slice-3.new.self.items c.put_spaced.new.text.items c.push.new.self.items c.extend_from_slice-4.new.self.items c.push-2.new.self.items
    c.text.result.now c.line_count.result c.text.ensures.text c.line_count.ensures c.in_ok-extend_from_slice.ensures.items
    c.in_ok-extend_from_slice-2.ensures.items c.in_ok-extend_from_slice-3.ensures.items c.in_ok-put_spaced.ensures.ok c.in_ok-push.ensures.items
    c.in_ok-extend_from_slice-4.ensures.items c.in_ok-push-2.ensures.items
