-- What a piece cites is kept, and nothing rests on it.
use Rattle.std.proofs.Common.{◌≡◌, ℕ, ◌+◌, Bool, true, false, ◌||◌, cond, nat_le, List, [], ◌∷◌, ◌++◌, length, Option, Some, None, Result, Ok, Err, refl, sym, ap, subst, ◌∙◌}
use Rattle.std.specs.Prelude.{All}
use Rattle.std.specs.Str.{bytes_eq}
use Rattle.std.proofs.lemmas.List.{length-map}
use Rattle.std.proofs.lemmas.List.Elements.{All-nil, All-cons}
use Rattle.std.proofs.lemmas.List.Sums.{sum_by-cons}
use Rattle.ct_kind.specs.declared.evidence.Evidence.{Evidence}
use Rattle.ct_fields.specs.declared.fault.DocumentFault.{DocumentFault}
use Rattle.ct_fields.specs.Cites.{IsCites}
use Rattle.ct_files.specs.Document.{DocumentValue, document_read_of}
use Rattle.ct_files.proofs.Documents.{document_without_limit-right}
use Rattle.ct_kind.specs.Named.{NamedCode}
use Rattle.ct_files.specs.ByKind.{stated_entry, size_over}
use Rattle.ct_piece.specs.Piece.{PieceValue, has_id, stored_by, stored_words}
use Rattle.ct_piece.specs.Codes.{named_code, codes_after, codes_of}
use Rattle.ct_files.specs.ByKind.{evidence_reason}
use Rattle.ct_piece.specs.Submission.{piece_of, piece_from, submitted}
use Rattle.ct_piece.specs.Inside.Making.{made_unless, made_of, stored_beside, unless_full}
use Rattle.ct_piece.specs.Supports.{support_of, supports_of}
use Rattle.ct_rule_parts.specs.declared.support.Support.{Support}
use Rattle.ct_piece.specs.Withdrawal.{names_any, ids_along, taken_along}
use Rattle.ct_piece.specs.Standing.{AreMade, AreStanding}
use Rattle.ct_laws.specs.Citing.{recited, made_recited, uncited}
use Rattle.ct_piece.specs.declared.limits.TheConstants.{MAX_PIECES, MAX_STORED}
use Rattle.ct_kind.specs.declared.fault.SubmitFault.{SubmitFault}
use Rattle.ct_kind.specs.declared.fault.SubmitFault.TheVariants as fault
use Rattle.ct_piece.proofs.MakingLemmas.{making, making-of}
use Rattle.ct_piece.proofs.StandingLemmas.{submitted-ok}

-- the texts that a piece cites are those that its document does
pub cites-kept : (pieces : List PieceValue) (id document : List ℕ) (p : PieceValue) → submitted pieces id document ≡ Ok p
    → (stated : DocumentValue) × (document_read_of document ≡ Ok stated) × (p.cites ≡ stated.cites)
cites-kept pieces id document p h =
    let m = making (codes_of pieces) id document (document_read_of document) p (submitted-ok pieces id document p h).made in
    (m.stated, m.is, ap (λ (q : PieceValue). q.cites) (sym m.piece))

-- and they are such as may be cited
AreMade-cite : (known : List NamedCode) (ps : List PieceValue) → AreMade known ps → All (λ (p : PieceValue). IsCites p.cites) ps
AreMade-cite known [] h = All-nil (λ (p : PieceValue). IsCites p.cites)
AreMade-cite known (p ∷ ps) h =
    let m = making-of known p h.0 in
    let own = subst (λ (q : PieceValue). IsCites q.cites) m.piece (document_without_limit-right p.document m.stated m.is).1 in
    All-cons (λ (q : PieceValue). IsCites q.cites) p ps own (AreMade-cite (known ++ named_code known p ∷ []) ps h.1)

pub cites-right : (pieces : List PieceValue) → AreStanding pieces → All (λ (p : PieceValue). IsCites p.cites) pieces
cites-right pieces h = AreMade-cite [] pieces h.made

-- what a submission makes goes by the evidence of its document
unless-recited : (document : List ℕ) (cites : List (List ℕ)) (reason : Option SubmitFault) (p : PieceValue)
    → made_unless reason (recited document cites p) ≡ made_recited document cites (made_unless reason p)
unless-recited document cites None p = refl
unless-recited document cites (Some reason) p = refl

stored-recited : (document : List ℕ) (cites : List (List ℕ)) (stored : ℕ) (made : Result PieceValue SubmitFault)
    → stored_beside stored (made_recited document cites made) ≡ made_recited document cites (stored_beside stored made)
stored-recited document cites stored (Err reason) = refl
stored-recited document cites stored (Ok p) = at (nat_le (stored + stored_by p) MAX_STORED) where
  at : (b : Bool) → cond b (Ok (recited document cites p)) (Err (fault.FullWords (stored + stored_by p)))
      ≡ made_recited document cites (cond b (Ok p) (Err (fault.FullWords (stored + stored_by p))))
  at true = refl
  at false = refl

full-recited : (document : List ℕ) (cites : List (List ℕ)) (taken full : Bool) (count : ℕ) (made : Result PieceValue SubmitFault)
    → cond taken (Err fault.Taken) (cond full (Err (fault.FullPieces count)) (made_recited document cites made))
    ≡ made_recited document cites (cond taken (Err fault.Taken) (cond full (Err (fault.FullPieces count)) made))
full-recited document cites true full count made = refl
full-recited document cites false true count made = refl
full-recited document cites false false count made = refl

made-recited : (known : List NamedCode) (id document other : List ℕ) (stated another : DocumentValue) → stated.evidence ≡ another.evidence
    → made_of known id other another ≡ made_recited other another.cites (made_of known id document stated)
made-recited known id document other stated another same =
    let of_evidence : Evidence → Result PieceValue SubmitFault = λ (e : Evidence).
    made_unless (evidence_reason known e)
    (record { id = id; document = other; evidence = e; cites = another.cites; entry = stated_entry e; size = size_over known e }) in
    ap of_evidence (sym same) ∙ unless-recited other another.cites (evidence_reason known stated.evidence) (piece_of known id document stated)

pub cites-alike : (pieces : List PieceValue) (id document other : List ℕ) (stated another : DocumentValue) → document_read_of document ≡ Ok stated
    → document_read_of other ≡ Ok another → stated.evidence ≡ another.evidence
    → submitted pieces id other ≡ made_recited other another.cites (submitted pieces id document)
unfolding submitted
cites-alike pieces id document other stated another read read_other same =
    let known = codes_of pieces in
    let taken = has_id id pieces in
    let count = length pieces in
    let stored = stored_words pieces in
    let own = made_of known id document stated in
    ap (λ (r : Result DocumentValue DocumentFault). unless_full taken count (stored_beside stored (piece_from known id other r))) read_other
    ∙ ap (λ (made : Result PieceValue SubmitFault). unless_full taken count (stored_beside stored made)) (made-recited known id document other stated another same)
    ∙ ap (λ (made : Result PieceValue SubmitFault). unless_full taken count made) (stored-recited other another.cites stored own)
    ∙ full-recited other another.cites taken (nat_le MAX_PIECES count) count (stored_beside stored own)
    ∙ ap (λ (r : Result DocumentValue DocumentFault). made_recited other another.cites (unless_full taken count (stored_beside stored (piece_from known id document r)))) (sym read)

-- pieces say the same if they cite nothing
has_id-uncited : (id : List ℕ) (ps : List PieceValue) → has_id id (uncited ps) ≡ has_id id ps
has_id-uncited id [] = refl
has_id-uncited id (p ∷ ps) = ap (λ (b : Bool). bytes_eq p.id id || b) (has_id-uncited id ps)

codes-uncited : (known : List NamedCode) (ps : List PieceValue) → codes_after known (uncited ps) ≡ codes_after known ps
codes-uncited known [] = refl
codes-uncited known (p ∷ ps) = ap (λ (rest : List NamedCode). named_code known p ∷ rest) (codes-uncited (known ++ named_code known p ∷ []) ps)

stored-uncited : (ps : List PieceValue) → stored_words (uncited ps) ≡ stored_words ps
stored-uncited [] = refl
stored-uncited (p ∷ ps) =
    sum_by-cons stored_by (recited p.document [] p) (uncited ps) ∙ ap (λ (n : ℕ). stored_by p + n) (stored-uncited ps) ∙ sym (sum_by-cons stored_by p ps)

pub submitted-uncited : (pieces : List PieceValue) (id document : List ℕ) → submitted (uncited pieces) id document ≡ submitted pieces id document
unfolding submitted
submitted-uncited pieces id document =
    let read = document_read_of document in
    ap (λ (taken : Bool). unless_full taken (length (uncited pieces)) (stored_beside (stored_words (uncited pieces)) (piece_from (codes_of (uncited pieces)) id document read)))
    (has_id-uncited id pieces)
    ∙ ap (λ (count : ℕ). unless_full (has_id id pieces) count (stored_beside (stored_words (uncited pieces)) (piece_from (codes_of (uncited pieces)) id document read)))
    (length-map pieces (λ (p : PieceValue). recited p.document [] p))
    ∙ ap (λ (stored : ℕ). unless_full (has_id id pieces) (length pieces) (stored_beside stored (piece_from (codes_of (uncited pieces)) id document read))) (stored-uncited pieces)
    ∙ ap (λ (known : List NamedCode). unless_full (has_id id pieces) (length pieces) (stored_beside (stored_words pieces) (piece_from known id document read)))
    (codes-uncited [] pieces)

ids-uncited : (ids : List (List ℕ)) (ps : List PieceValue) → ids_along ids (uncited ps) ≡ ids_along ids ps
ids-uncited ids [] = refl
ids-uncited ids (p ∷ ps) = ids-uncited (cond (names_any ids p) (ids ++ p.id ∷ []) ids) ps

pub along-uncited : (pieces : List PieceValue) (id : List ℕ) → taken_along (uncited pieces) id ≡ taken_along pieces id
along-uncited pieces id = ids-uncited (id ∷ []) pieces

pub supports-uncited : (ps : List PieceValue) → supports_of (uncited ps) ≡ supports_of ps
supports-uncited [] = refl
supports-uncited (p ∷ ps) = ap (λ (rest : List Support). support_of p ∷ rest) (supports-uncited ps)
