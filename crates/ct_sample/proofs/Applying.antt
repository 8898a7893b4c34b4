-- What the commands of the sample leave of a ledger's pieces, whose documents are not seen.
use Rattle.std.proofs.Common.{◌≡◌, ℕ, ◌+◌, Bool, true, false, cond, List, [], ◌∷◌, Result, Ok, Err, is_ok, refl, sym, ap, ◌∙◌}
use Rattle.std.specs.Int.{from_bool}
use Rattle.std.proofs.lemmas.List.{map-append}
use Rattle.ct_kind.specs.declared.evidence.Evidence.{Evidence}
use Rattle.ct_files.specs.Document.{without_cites, document_read_of}
use Rattle.ct_piece.specs.Piece.{PieceValue}
use Rattle.ct_piece.specs.Submission.{submitted, with_piece}
use Rattle.ct_piece.specs.Withdrawal.{withdrawn, left_by}
use Rattle.ct_kind.specs.declared.fault.SubmitFault.{SubmitFault}
use Rattle.ct_piece.specs.declared.fault.WithdrawFault.{WithdrawFault}
use Rattle.ct_sample.specs.Run.{RunValue, without_document, without_documents, made_without_document, after_submission, after_withdrawal}
use Rattle.ct_sample.proofs.WithoutDocuments.{bare_made, bare_left, made-without_documents, withdrawn-without_documents}

-- what is seen of a run
abbrev pub run_value : List PieceValue → ℕ → ℕ → RunValue
run_value pieces accepted withdrawn = record { pieces = without_documents pieces; accepted = accepted; withdrawn = withdrawn }

-- a bit as a number
pub bit_is : (b : Bool) → from_bool b ≡ cond b 1 0
bit_is true = refl
bit_is false = refl

ok-without_document : (made : Result PieceValue SubmitFault) → is_ok (bare_made made) ≡ is_ok made
ok-without_document (Ok p) = refl
ok-without_document (Err reason) = refl

with-without_document : (old : List PieceValue) (made : Result PieceValue SubmitFault) → without_documents (with_piece old made) ≡ with_piece (without_documents old) (bare_made made)
with-without_document old (Ok p) = map-append without_document old (p ∷ [])
with-without_document old (Err reason) = refl

pub submitted_one : (old new : List PieceValue) (a w one : ℕ) (id document : List ℕ) (evidence : Evidence) → document_read_of document ≡ Ok (without_cites evidence)
    → new ≡ with_piece old (submitted old id document)
    → one ≡ cond (is_ok (submitted old id document)) 1 0 → run_value new (a + one) w ≡ after_submission (run_value old a w) (made_without_document (without_documents old) id evidence)
submitted_one old new a w one id document evidence read pieces counted =
    let made = submitted old id document in
    let left : without_documents new ≡ with_piece (without_documents old) (bare_made made) = ap without_documents pieces ∙ with-without_document old made in
    let count : a + one ≡ a + cond (is_ok (bare_made made)) 1 0 = ap (λ (n : ℕ). a + n) (counted ∙ ap (λ (b : Bool). cond {A = ℕ} b 1 0) (sym (ok-without_document made))) in
    (λ i. record { pieces = left i; accepted = count i; withdrawn = w }) ∙ ap (after_submission (run_value old a w)) (sym (made-without_documents old id document evidence read))

ok-left : (left : Result (List PieceValue) WithdrawFault) → is_ok (bare_left left) ≡ is_ok left
ok-left (Ok rest) = refl
ok-left (Err reason) = refl

left-without_document : (old : List PieceValue) (left : Result (List PieceValue) WithdrawFault) → without_documents (left_by old left) ≡ left_by (without_documents old) (bare_left left)
left-without_document old (Ok rest) = refl
left-without_document old (Err reason) = refl

pub withdrawn_one : (old new : List PieceValue) (a w one : ℕ) (id : List ℕ) → new ≡ left_by old (withdrawn old id) → one ≡ cond (is_ok (withdrawn old id)) 1 0
    → run_value new a (w + one) ≡ after_withdrawal (run_value old a w) (withdrawn (without_documents old) id)
withdrawn_one old new a w one id pieces counted =
    let made = withdrawn old id in
    let left : without_documents new ≡ left_by (without_documents old) (bare_left made) = ap without_documents pieces ∙ left-without_document old made in
    let count : w + one ≡ w + cond (is_ok (bare_left made)) 1 0 = ap (λ (n : ℕ). w + n) (counted ∙ ap (λ (b : Bool). cond {A = ℕ} b 1 0) (sym (ok-left made))) in
    (λ i. record { pieces = left i; accepted = a; withdrawn = count i }) ∙ ap (after_withdrawal (run_value old a w)) (sym (withdrawn-without_documents old id))
