-- What pieces say without their documents.
use Rattle.std.proofs.Common.{◌≡◌, ℕ, ◌+◌, ◌%◌, ◌==◌, Bool, true, false, ◌||◌, cond, not, nat_le, List, [], ◌∷◌, ◌++◌, length, Option, Some, None, option_map, Result, Ok, Err, refl, sym, ap, ap₂, ◌∙◌}
use Rattle.std.specs.Prelude.{find, if◌then◌else◌}
use Rattle.std.specs.Option.{unwrap_or}
use Rattle.std.specs.Str.{bytes_eq}
use Rattle.std.proofs.lemmas.List.{length-map}
use Rattle.std.proofs.lemmas.List.Folds.{fold-map}
use Rattle.std.proofs.lemmas.List.Sums.{sum_by-cons, fold-append}
use Rattle.ct_kind.specs.declared.evidence.Evidence.{Evidence}
use Rattle.ct_files.specs.Document.{DocumentValue, without_cites, document_read_of}
use Rattle.ct_rule_parts.specs.declared.support.Support.{Support}
use Rattle.ct_kind.specs.Named.{NamedCode}
use Rattle.ct_files.specs.ByKind.{names}
use Rattle.ct_piece.specs.Piece.{PieceValue, has_id, stored_by, stored_words, first_user}
use Rattle.ct_piece.specs.Codes.{named_code, codes_after, codes_of}
use Rattle.ct_files.specs.ByKind.{evidence_reason}
use Rattle.ct_piece.specs.Submission.{piece_of, submitted}
use Rattle.ct_piece.specs.Inside.Making.{made_unless, made_of, stored_beside, unless_full}
use Rattle.ct_piece.specs.Supports.{support_of, supports_of}
use Rattle.ct_piece.specs.Withdrawal.{without, unless_used, withdrawn}
use Rattle.ct_piece.specs.declared.limits.TheConstants.{MAX_PIECES, MAX_STORED}
use Rattle.ct_kind.specs.declared.fault.SubmitFault.{SubmitFault}
use Rattle.ct_piece.proofs.Admitting.{made_of-read}
use Rattle.ct_kind.specs.declared.fault.SubmitFault.TheVariants as fault
use Rattle.ct_piece.specs.declared.fault.WithdrawFault.{WithdrawFault}
use Rattle.ct_piece.specs.declared.fault.WithdrawFault.TheVariants as withdraw
use Rattle.ct_sample.specs.Drawn.{may_lengthen, lengthening, last_lengthening, drawn_dual, drawn_words, drawn_cosets, drawn_evidence}
use Rattle.ct_sample.specs.Command.{step_id, is_used, command_drawn}
use Rattle.ct_sample.specs.declared.command.Command.TheVariants.{Submit, Withdraw}
use Rattle.ct_sample.specs.Run.{without_document, without_documents, made_without_document}

has_id-without_documents : (id : List ℕ) (ps : List PieceValue) → has_id id (without_documents ps) ≡ has_id id ps
has_id-without_documents id [] = refl
has_id-without_documents id (p ∷ ps) = ap (λ (b : Bool). bytes_eq p.id id || b) (has_id-without_documents id ps)

codes-without_documents : (known : List NamedCode) (ps : List PieceValue) → codes_after known (without_documents ps) ≡ codes_after known ps
codes-without_documents known [] = refl
codes-without_documents known (p ∷ ps) = ap (λ (rest : List NamedCode). named_code known p ∷ rest) (codes-without_documents (known ++ named_code known p ∷ []) ps)

stored-without_documents : (ps : List PieceValue) → stored_words (without_documents ps) ≡ stored_words ps
stored-without_documents [] = refl
stored-without_documents (p ∷ ps) =
    sum_by-cons stored_by (without_document p) (without_documents ps) ∙ ap (λ (n : ℕ). stored_by p + n) (stored-without_documents ps) ∙ sym (sum_by-cons stored_by p ps)

user-without_documents : (id : List ℕ) (ps : List PieceValue) → first_user id (without_documents ps) ≡ option_map without_document (first_user id ps)
user-without_documents id [] = refl
user-without_documents id (p ∷ ps) = at (names p.evidence id) (user-without_documents id ps) where
  at : (b : Bool) → first_user id (without_documents ps) ≡ option_map without_document (first_user id ps)
      → cond b (Some (without_document p)) (first_user id (without_documents ps)) ≡ option_map without_document (cond b (Some p) (first_user id ps))
  at true rest = refl
  at false rest = rest

without-without_documents : (id : List ℕ) (ps : List PieceValue) → without id (without_documents ps) ≡ without_documents (without id ps)
without-without_documents id [] = refl
without-without_documents id (p ∷ ps) = at (not (bytes_eq p.id id)) (without-without_documents id ps) where
  at : (b : Bool) → without id (without_documents ps) ≡ without_documents (without id ps)
      → cond b (without_document p ∷ without id (without_documents ps)) (without id (without_documents ps)) ≡ without_documents (cond b (p ∷ without id ps) (without id ps))
  at true rest = ap (λ (qs : List PieceValue). without_document p ∷ qs) rest
  at false rest = rest

pub supports-without_documents : (ps : List PieceValue) → supports_of (without_documents ps) ≡ supports_of ps
supports-without_documents [] = refl
supports-without_documents (p ∷ ps) = ap (λ (rest : List Support). support_of p ∷ rest) (supports-without_documents ps)

pub length-without_documents : (ps : List PieceValue) → length (without_documents ps) ≡ length ps
length-without_documents ps = length-map ps without_document

-- what is made, without its document
abbrev pub bare_made : Result PieceValue SubmitFault → Result PieceValue SubmitFault
bare_made (Ok p) = Ok (without_document p)
bare_made (Err reason) = Err reason

-- what is left, without documents
abbrev pub bare_left : Result (List PieceValue) WithdrawFault → Result (List PieceValue) WithdrawFault
bare_left (Ok rest) = Ok (without_documents rest)
bare_left (Err reason) = Err reason

unless-without_document : (reason : Option SubmitFault) (p : PieceValue) → made_unless reason (without_document p) ≡ bare_made (made_unless reason p)
unless-without_document None p = refl
unless-without_document (Some reason) p = refl

stored-without_document : (stored : ℕ) (made : Result PieceValue SubmitFault) → stored_beside stored (bare_made made) ≡ bare_made (stored_beside stored made)
stored-without_document stored (Err reason) = refl
stored-without_document stored (Ok p) = at (nat_le (stored + stored_by p) MAX_STORED) where
  at : (b : Bool) → cond b (Ok (without_document p)) (Err (fault.FullWords (stored + stored_by p))) ≡ bare_made (cond b (Ok p) (Err (fault.FullWords (stored + stored_by p))))
  at true = refl
  at false = refl

full-without_document : (taken full : Bool) (count : ℕ) (made : Result PieceValue SubmitFault)
    → cond taken (Err fault.Taken) (cond full (Err (fault.FullPieces count)) (bare_made made))
    ≡ bare_made (cond taken (Err fault.Taken) (cond full (Err (fault.FullPieces count)) made))
full-without_document true full count made = refl
full-without_document false true count made = refl
full-without_document false false count made = refl

-- a submission of a document without cites that reads as the evidence makes over pieces what this makes over them without documents, but for the documents
pub made-without_documents : (ps : List PieceValue) (id document : List ℕ) (evidence : Evidence) → document_read_of document ≡ Ok (without_cites evidence) → made_without_document (without_documents ps) id evidence ≡ bare_made (submitted ps id document)
unfolding made_without_document submitted
made-without_documents ps id document evidence read =
    let known = codes_of ps in
    let stated : DocumentValue = without_cites evidence in
    let own = made_of known id document stated in
    ap (λ (taken : Bool). unless_full taken (length (without_documents ps)) (stored_beside (stored_words (without_documents ps)) (made_of (codes_of (without_documents ps)) id [] stated))) (has_id-without_documents id ps)
    ∙ ap (λ (count : ℕ). unless_full (has_id id ps) count (stored_beside (stored_words (without_documents ps)) (made_of (codes_of (without_documents ps)) id [] stated))) (length-without_documents ps)
    ∙ ap (λ (stored : ℕ). unless_full (has_id id ps) (length ps) (stored_beside stored (made_of (codes_of (without_documents ps)) id [] stated))) (stored-without_documents ps)
    ∙ ap (λ (codes : List NamedCode). unless_full (has_id id ps) (length ps) (stored_beside (stored_words ps) (made_of codes id [] stated))) (codes-without_documents [] ps)
    ∙ ap (λ (made : Result PieceValue SubmitFault). unless_full (has_id id ps) (length ps) (stored_beside (stored_words ps) made)) (unless-without_document (evidence_reason known evidence) (piece_of known id document stated))
    ∙ ap (λ (made : Result PieceValue SubmitFault). unless_full (has_id id ps) (length ps) made) (stored-without_document (stored_words ps) own)
    ∙ full-without_document (has_id id ps) (nat_le MAX_PIECES (length ps)) (length ps) (stored_beside (stored_words ps) own)
    ∙ ap (λ (made : Result PieceValue SubmitFault). bare_made (unless_full (has_id id ps) (length ps) (stored_beside (stored_words ps) made)))
    (sym (made_of-read known id document stated own read refl))

used-without_document : (user : Option PieceValue) (rest : List PieceValue) → unless_used (option_map without_document user) (without_documents rest) ≡ bare_left (unless_used user rest)
used-without_document None rest = refl
used-without_document (Some user) rest = refl

has-without_document : (has : Bool) (left : Result (List PieceValue) WithdrawFault) → cond has (bare_left left) (Err withdraw.NoSuch) ≡ bare_left (cond has left (Err withdraw.NoSuch))
has-without_document true left = refl
has-without_document false left = refl

-- and so does a withdrawal
pub withdrawn-without_documents : (ps : List PieceValue) (id : List ℕ) → withdrawn (without_documents ps) id ≡ bare_left (withdrawn ps id)
unfolding withdrawn
withdrawn-without_documents ps id =
    ap (λ (has : Bool). cond has (unless_used (first_user id (without_documents ps)) (without id (without_documents ps))) (Err withdraw.NoSuch)) (has_id-without_documents id ps)
    ∙ ap (λ (user : Option PieceValue). cond (has_id id ps) (unless_used user (without id (without_documents ps))) (Err withdraw.NoSuch)) (user-without_documents id ps)
    ∙ ap (λ (rest : List PieceValue). cond (has_id id ps) (unless_used (option_map without_document (first_user id ps)) rest) (Err withdraw.NoSuch)) (without-without_documents id ps)
    ∙ ap (λ (left : Result (List PieceValue) WithdrawFault). cond (has_id id ps) left (Err withdraw.NoSuch)) (used-without_document (first_user id ps) (without id ps))
    ∙ has-without_document (has_id id ps) (unless_used (first_user id ps) (without id ps))

used-without_documents : (ps : List PieceValue) (id : List ℕ) → is_used (without_documents ps) id ≡ is_used ps id
used-without_documents [] id = refl
used-without_documents (p ∷ ps) id = ap (λ (b : Bool). names p.evidence id || b) (used-without_documents ps id)

found-without_documents : (qs ps : List PieceValue) → option_map (λ (p : PieceValue). p.id) (find (λ (p : PieceValue). not (is_used (without_documents qs) p.id)) (without_documents ps))
    ≡ option_map (λ (p : PieceValue). p.id) (find (λ (p : PieceValue). not (is_used qs p.id)) ps)
found-without_documents qs [] = refl
found-without_documents qs (p ∷ ps) = at (is_used (without_documents qs) p.id) (is_used qs p.id) (used-without_documents qs p.id) (found-without_documents qs ps) where
  rest_of : List PieceValue → List PieceValue → Option PieceValue
  rest_of us xs = find (λ (q : PieceValue). not (is_used us q.id)) xs

  at : (a b : Bool) → a ≡ b → option_map (λ (q : PieceValue). q.id) (rest_of (without_documents qs) (without_documents ps)) ≡ option_map (λ (q : PieceValue). q.id) (rest_of qs ps)
      → option_map (λ (q : PieceValue). q.id) (cond (not a) (Some (without_document p)) (rest_of (without_documents qs) (without_documents ps)))
      ≡ option_map (λ (q : PieceValue). q.id) (cond (not b) (Some p) (rest_of qs ps))
  at true true same rest = rest
  at false false same rest = refl
  at true false same rest = absurd cc
  at false true same rest = absurd cc

pub last-more : (ps : List PieceValue) (p : PieceValue) → last_lengthening (ps ++ p ∷ []) ≡ cond (may_lengthen p) (Some (lengthening p)) (last_lengthening ps)
last-more ps p = fold-append (λ (found : Option Evidence) (q : PieceValue). if may_lengthen q then Some (lengthening q) else found) None ps (p ∷ [])

last-without_documents : (ps : List PieceValue) → last_lengthening (without_documents ps) ≡ last_lengthening ps
last-without_documents ps = fold-map (λ (found : Option Evidence) (p : PieceValue). if may_lengthen p then Some (lengthening p) else found) without_document None ps

drawn-without_documents : (h : ℕ) (ps : List PieceValue) → drawn_evidence h (without_documents ps) ≡ drawn_evidence h ps
unfolding drawn_evidence
drawn-without_documents h ps =
    ap (λ (found : Option Evidence). if h % 4 == 0 then drawn_words h else if h % 4 == 1 then drawn_cosets h else if h % 4 == 3 then unwrap_or found (drawn_dual h) else drawn_dual h)
    (last-without_documents ps)

-- the command of a step over pieces rests on no document
pub command_of-without_documents : (step h : ℕ) (ps : List PieceValue) → command_drawn step h (without_documents ps) ≡ command_drawn step h ps
command_of-without_documents step h ps =
    ap₂ (λ (id : Option (List ℕ)) (evidence : Evidence). if step % 3 == 0 then option_map Withdraw id else Some (Submit (step_id step) evidence)) (found-without_documents ps ps) (drawn-without_documents h ps)
