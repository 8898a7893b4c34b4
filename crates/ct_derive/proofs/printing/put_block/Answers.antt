use Rattle.std.proofs.Common.{◌≡◌, ◌++◌, ℕ, ◌<◌, List, length, get_or, Result, append-nil, ap, ap₂, sym, ◌∙◌}
use Rattle.std.specs.Prelude.{OnOk, slice_get}
use Rattle.std.proofs.lemmas.Option.{slice_get-get_or, slice_get_past}
use Rattle.std.proofs.lemmas.Result.{on_ok_weaker}
use Rattle.ct_derive.specs.Text.{evidence_text, block_text}
use Rattle.ct_derive.proofs.printing.put_block.Goals as goal

-- the block of a piece that is there
there : {X T E : Type 0} (id document : X → List ℕ) (xs : List X) (i : ℕ) (x : X) (r : Result T E) (old new n m : List ℕ) → i < length xs
    → x ≡ get_or xs i x → n ≡ id x → m ≡ document x → OnOk r (new ≡ old ++ evidence_text n m)
    → OnOk r (new ≡ old ++ block_text id document (slice_get xs i))
there id document xs i x r old new n m within at n-is m-is put =
    on_ok_weaker r
    (λ e. e
    ∙ ap₂ (λ k l. old ++ evidence_text k l) (n-is ∙ ap id at) (m-is ∙ ap document at)
    ∙ ap (λ o. old ++ block_text id document o) (sym (slice_get-get_or xs i x within)))
    put

pub returns-in-None : goal.returns-in-None
returns-in-None g c =
    let text = c.args.text.now.items in
    sym (ap (λ o. text ++ block_text g.P.ShownPiece.id_of g.P.ShownPiece.document_of o)
    (slice_get_past c.args.pieces.now c.args.place c.in-None.ensures.lookup.3) ∙ append-nil text)

pub returns-in-Some : goal.returns-in-Some
returns-in-Some g c =
    let found = c.in-Some.ensures.lookup in
    there g.P.ShownPiece.id_of g.P.ShownPiece.document_of c.args.pieces.now c.args.place c.in-Some.piece.now c.put_evidence.result c.args.text.now.items
    c.put_evidence.new.text.items c.id.result c.document.result.now found.3.0 found.1 c.id.ensures c.document.ensures c.put_evidence.ensures
