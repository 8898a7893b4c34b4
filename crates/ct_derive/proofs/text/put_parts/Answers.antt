use Rattle.std.proofs.Common.{◌≡◌, ◌++◌, ℕ, List, [], ◌∷◌}
use Rattle.std.specs.Prelude.{codes}
use Rattle.ct_text.specs.declared.document_lines.TheConstants.{LINE_FEED}
use Rattle.ct_text.specs.Number.{spaced}
use Rattle.ct_derive.specs.Text.{claim_words, reason_words}
use Rattle.ct_derive.proofs.TextParts.{onto}
use Rattle.ct_derive.proofs.text.put_parts.Goals as goal

-- the parts of a line, one after another
parts_of_line : (t number claim reason t1 t2 t3 t4 t5 t6 : List ℕ) → t1 ≡ t ++ codes "line" → t2 ≡ t1 ++ number → t3 ≡ t2 ++ codes " " → t4 ≡ t3 ++ claim
    → t5 ≡ t4 ++ reason → t6 ≡ t5 ++ LINE_FEED ∷ [] → t6 ≡ t ++ (codes "line" ++ number ++ codes " " ++ claim ++ reason ++ LINE_FEED ∷ [])
parts_of_line t number claim reason t1 t2 t3 t4 t5 t6 one two three four five six =
    let a2 = codes "line" ++ number in
    let a3 = a2 ++ codes " " in
    let a4 = a3 ++ claim in
    let s2 = onto t (codes "line") number t1 t2 one two in
    let s3 = onto t a2 (codes " ") t2 t3 s2 three in
    let s4 = onto t a3 claim t3 t4 s3 four in
    let s5 = onto t a4 reason t4 t5 s4 five in
    onto t (a4 ++ reason) (LINE_FEED ∷ []) t5 t6 s5 six

pub returns : goal.returns
returns c =
    parts_of_line c.args.text.now.items (spaced c.args.number) (claim_words c.args.claim) (reason_words c.args.ids.now c.args.rule c.args.from.now)
    c.extend_from_slice.new.self.items c.put_spaced.new.text.items c.push.new.self.items c.put_claim.new.text.items c.put_reason.new.text.items
    c.push-2.new.self.items c.in_ok-extend_from_slice.ensures.items c.in_ok-put_spaced.ensures.ok c.in_ok-push.ensures.items c.in_ok-put_claim.ensures
    c.in_ok-put_reason.ensures c.in_ok-push-2.ensures.items
