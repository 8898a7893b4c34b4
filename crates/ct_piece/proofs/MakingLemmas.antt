-- What holds of evidence that makes a piece, and that its code is one.
use Rattle.std.proofs.Common.{◌≡◌, ℕ, ◌<◌, Bool, true, false, cond, not, List, [], ◌∷◌, ◌++◌, length, take, get_or, Option, Some, None, option_map, Result, Ok, Err, refl, ap, subst}
use Rattle.std.specs.Prelude.{All, find}
use Rattle.std.specs.Option.{option_flatten}
use Rattle.std.proofs.lemmas.List.Elements.{All-push, All-nil, All-cons, All-head, All-tail}
use Rattle.ct_fields.specs.declared.fault.DocumentFault.{DocumentFault}
use Rattle.ct_files.specs.Document.{DocumentValue, document_without_limit}
use Rattle.ct_files.proofs.Documents.{document_without_limit-right}
use Rattle.ct_kind.specs.Named.{NamedCode, is_known, first_missing}
use Rattle.ct_files.specs.ByKind.{words_over}
use Rattle.ct_piece.specs.Piece.{PieceValue}
use Rattle.ct_files.specs.ByKind.{code_over}
use Rattle.ct_piece.specs.Codes.{named_code, codes_after, codes_of, code_of_place}
use Rattle.ct_files.specs.ByKind.{evidence_reason}
use Rattle.ct_piece.specs.Submission.{piece_of, piece_from}
use Rattle.ct_piece.specs.Inside.Making.{made_unless}
use Rattle.ct_piece.specs.Standing.{IsMade, AreMade}
use Rattle.ct_kind.specs.declared.fault.SubmitFault.{SubmitFault}
use Rattle.ct_piece.proofs.CodeLemmas.{made_at, code_at_place}
use Rattle.ct_kind.specs.Sound.{HasSoundCode, AreSound}
use Rattle.ct_files.proofs.StatedByKind.{IsRight, states_code, over-sound}

-- where none is found, the test fails of each
find-none_all : {X : Type 0} (test : X → Bool) (xs : List X) → find test xs ≡ None → All (λ (x : X). test x ≡ false) xs
find-none_all test [] h = All-nil (λ x. test x ≡ false)
find-none_all test (x ∷ xs) h = at (test x) refl h (find-none_all test xs) where
  at : (b : Bool) → test x ≡ b → cond b (Some x) (find test xs) ≡ None → (find test xs ≡ None → All (λ y. test y ≡ false) xs) → All (λ y. test y ≡ false) (x ∷ xs)
  at true is found later = absurd cc
  at false is rest later = All-cons (λ y. test y ≡ false) x xs is (later rest)

find-none_from : {X : Type 0} (test : X → Bool) (xs : List X) → All (λ (x : X). test x ≡ false) xs → find test xs ≡ None
find-none_from test [] h = refl
find-none_from test (x ∷ xs) h =
    rw (All-head (λ y. test y ≡ false) x xs h) (find-none_from test xs (All-tail (λ y. test y ≡ false) x xs h))

not-false : (b : Bool) → not b ≡ false → b ≡ true
not-false true h = refl
not-false false h = absurd cc

-- no id is missing exactly where each is known
pub none_missing : (known : List NamedCode) (ids : List (List ℕ)) → first_missing known ids ≡ None → All (λ (id : List ℕ). is_known id known ≡ true) ids
none_missing known ids h = λ i d within. not-false (is_known (get_or ids i d) known) (find-none_all (λ (id : List ℕ). not (is_known id known)) ids h i d within)

pub none_missing-from : (known : List NamedCode) (ids : List (List ℕ)) → All (λ (id : List ℕ). is_known id known ≡ true) ids → first_missing known ids ≡ None
none_missing-from known ids h =
    find-none_from (λ (id : List ℕ). not (is_known id known)) ids (λ i d within. ap not (h i d within))

-- what the document states of which a piece is made, and which was read as this
pub record IsMaking (known : List NamedCode) (id document : List ℕ) (read : Result DocumentValue DocumentFault) (p : PieceValue) : Type 0 where
  pub stated : DocumentValue
  pub is : read ≡ Ok stated
  pub faultless : evidence_reason known stated.evidence ≡ None
  pub piece : piece_of known id document stated ≡ p

made_unless-ok : (reason : Option SubmitFault) (q p : PieceValue) → made_unless reason q ≡ Ok p → (reason ≡ None) × (q ≡ p)
made_unless-ok None q p h = (refl, cc)
made_unless-ok (Some reason) q p h = absurd cc

pub making : (known : List NamedCode) (id document : List ℕ) (read : Result DocumentValue DocumentFault) (p : PieceValue) → piece_from known id document read ≡ Ok p → IsMaking known id document read p
making known id document (Ok stated) p h =
    let both = made_unless-ok (evidence_reason known stated.evidence) (piece_of known id document stated) p h in
    record { stated = stated; is = refl; faultless = both.0; piece = both.1 }
making known id document (Err reason) p h = absurd cc

pub making-of : (known : List NamedCode) (p : PieceValue) → IsMade known p → IsMaking known p.id p.document (document_without_limit p.document) p
making-of known p h = making known p.id p.document (document_without_limit p.document) p h

-- a piece that is made is right over the codes
pub IsMade-right : (known : List NamedCode) (p : PieceValue) → IsMade known p → IsRight known p.evidence
IsMade-right known p h =
    let m = making-of known p h in
    subst (λ (q : PieceValue). IsRight known q.evidence) m.piece
    (record { sound = (document_without_limit-right p.document m.stated m.is).0; faultless = m.faultless })

-- and its code is one, where its kind has one
pub IsMade-sound : (known : List NamedCode) (p : PieceValue) → AreSound known → IsMade known p → HasSoundCode (named_code known p)
IsMade-sound known p sound h =
    let states = states_code known p.evidence sound (IsMade-right known p h) in
    record { code = over-sound known p.evidence (words_over known p.evidence) states refl; partition = states.partition }

-- the codes of pieces that are made are codes
pub codes_after-sound : (known : List NamedCode) (ps : List PieceValue) → AreSound known → AreMade known ps → AreSound (codes_after known ps)
codes_after-sound known [] sound h = All-nil HasSoundCode
codes_after-sound known (p ∷ ps) sound h =
    let own = named_code known p in
    let first = IsMade-sound known p sound h.0 in
    All-cons HasSoundCode own (codes_after (known ++ own ∷ []) ps) first (codes_after-sound (known ++ own ∷ []) ps (All-push HasSoundCode known own sound first) h.1)

-- the piece at a place is right over the codes of those before it
pub right_at : (ps : List PieceValue) (k : ℕ) (d : PieceValue) → AreMade [] ps → k < length ps → IsRight (codes_of (take k ps)) (get_or ps k d).evidence
right_at ps k d h below = IsMade-right (codes_of (take k ps)) (get_or ps k d) (made_at [] ps k d h below)

-- and its code is that of its evidence over them
pub code_of_place-is : (ps : List PieceValue) (k : ℕ) (d : PieceValue) → k < length ps → code_of_place ps k ≡ code_over (codes_of (take k ps)) (get_or ps k d).evidence
code_of_place-is ps k d below = ap (λ (found : Option NamedCode). option_flatten (option_map (λ (l : NamedCode). l.code) found)) (code_at_place [] ps k d below)
