use Rattle.std.proofs.Common.{◌≡◌, ◌++◌, ℕ, List, Result, ap, ◌∙◌}
use Rattle.std.specs.Prelude.{OnOk, codes}
use Rattle.std.proofs.lemmas.Result.{on_ok_weaker}
use Rattle.ct_words.specs.declared.claim.Claim.{Claim}
use Rattle.ct_text.specs.Number.{spaced}
use Rattle.ct_text.specs.EntryText.{entry_words}
use Rattle.ct_derive.specs.Text.{side_text, claim_words}
use Rattle.ct_derive.proofs.TextParts.{onto}
use Rattle.ct_derive.proofs.text.put_claim.Goals as goal

-- the parts of a claim, one after another
parts_of_claim : {T E : Type 0} (r : Result T E) (claim : Claim) (t t1 t2 t3 t4 t5 : List ℕ) (value : ℕ) → t1 ≡ t ++ side_text claim.side
    → t2 ≡ t1 ++ codes " " → t3 ≡ t2 ++ entry_words claim.entry → t4 ≡ t3 ++ codes " value" → value ≡ claim.value → OnOk r (t5 ≡ t4 ++ spaced value)
    → OnOk r (t5 ≡ t ++ claim_words claim)
parts_of_claim r claim t t1 t2 t3 t4 t5 value one two three four value-is put =
    let a1 = side_text claim.side in
    let a2 = a1 ++ codes " " in
    let a3 = a2 ++ entry_words claim.entry in
    let s2 = onto t a1 (codes " ") t1 t2 one two in
    let s3 = onto t a2 (entry_words claim.entry) t2 t3 s2 three in
    let s4 = onto t a3 (codes " value") t3 t4 s3 four in
    on_ok_weaker r (λ five. onto t (a3 ++ codes " value") (spaced claim.value) t4 t5 s4 (five ∙ ap (λ k. t4 ++ spaced k) value-is)) put

pub returns : goal.returns
returns c =
    parts_of_claim c.put_spaced.result c.args.claim c.args.text.now.items c.put_side.new.text.items c.push.new.self.items c.put_entry_words.new.text.items
    c.extend_from_slice.new.self.items c.put_spaced.new.text.items c.from.result c.in_ok-put_side.ensures c.in_ok-push.ensures.items
    c.in_ok-put_entry_words.ensures c.in_ok-extend_from_slice.ensures.items c.from.ensures c.put_spaced.ensures.ok
