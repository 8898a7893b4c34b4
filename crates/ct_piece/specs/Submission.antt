-- What a submission makes over the pieces that stand: a piece, or the first reason why it makes none.
use Rattle.std.specs.Prelude.{◌≡◌, ◌≢◌, ◌<◌, ◌≤◌, ℕ, ◌+◌, nat_le, if◌then◌else◌, List, [], ◌∷◌, ◌++◌, length, map, All, Contains, Option, Some, None, Result, Ok, Err, IfSome}
use Rattle.ct_words.specs.Code.{IsCodeOf}
use Rattle.ct_fields.specs.declared.fault.DocumentFault.{DocumentFault}
use Rattle.ct_files.specs.Document.{DocumentValue, document_read_of}
use Rattle.ct_kind.specs.Named.{NamedCode}
use Rattle.ct_files.specs.ByKind.{stated_entry, ids_of_parts, words_over, size_over, evidence_reason, IsChecked}
use Rattle.ct_piece.specs.Piece.{PieceValue, has_id, stored_by, stored_words}
use Rattle.ct_piece.specs.Codes.{codes_of}
use Rattle.ct_piece.specs.declared.limits.TheConstants.{MAX_PIECES, MAX_STORED}
use Rattle.ct_kind.specs.declared.fault.SubmitFault.{SubmitFault}
use Rattle.ct_kind.specs.declared.fault.SubmitFault.TheVariants as fault

-- the piece of what a document states: its evidence with what it cites, and its size, where it has one
abbrev pub piece_of : List NamedCode → List ℕ → List ℕ → DocumentValue → PieceValue
piece_of known id document stated = record {
  id = id;
  document = document;
  evidence = stated.evidence;
  cites = stated.cites;
  entry = stated_entry stated.evidence;
  size = size_over known stated.evidence;
}

-- the piece of a document that is read so, over these codes, or why there is none: the fault of the document, or the reason against its evidence
abbrev pub piece_from : List NamedCode → List ℕ → List ℕ → Result DocumentValue DocumentFault → Result PieceValue SubmitFault
piece_from known id document (Err reason) = Err (fault.File reason)
piece_from known id document (Ok stated) =
    elim (evidence_reason known stated.evidence) [ None ↦ Ok (piece_of known id document stated) | Some reason ↦ Err reason ]

-- what a document that is read so makes over the pieces that stand: the piece, or the first reason why it makes none. The id is taken, there are as
-- many pieces as may be, there is no piece of the document, or its words are too many beside those that are stored
abbrev pub made_over : List PieceValue → List ℕ → List ℕ → Result DocumentValue DocumentFault → Result PieceValue SubmitFault
made_over pieces id document read =
    if has_id id pieces then Err fault.Taken
    else if nat_le MAX_PIECES (length pieces) then Err (fault.FullPieces (length pieces))
    else elim (piece_from (codes_of pieces) id document read) [
      | Err reason ↦ Err reason
      | Ok piece ↦
          if nat_le (stored_words pieces + stored_by piece) MAX_STORED then Ok piece
          else Err (fault.FullWords (stored_words pieces + stored_by piece))
    ]

-- what a submission makes over the pieces that stand: a piece, or the first reason why it makes none
unfoldable pub submitted : List PieceValue → List ℕ → List ℕ → Result PieceValue SubmitFault
submitted pieces id document = made_over pieces id document (document_read_of document)

-- the pieces with the one that is made, if one is, at the end
abbrev pub with_piece : List PieceValue → Result PieceValue SubmitFault → List PieceValue
with_piece pieces (Ok piece) = pieces ++ piece ∷ []
with_piece pieces (Err reason) = pieces

-- a submission is accepted as this piece: no piece has its id, there is room for one more, its document states evidence whose parts stand and are
-- right and whose words, where its kind has a code, are a code of its entry, and its words may be stored beside the others
pub record IsAccepted (pieces : List PieceValue) (id document : List ℕ) (p : PieceValue) : Type 0 where
  pub free : All (λ q. q.id ≢ id) pieces
  pub room : length pieces < MAX_PIECES
  pub stated : DocumentValue
  pub read : document_read_of document ≡ Ok stated
  pub parts : All (Contains (map (λ q. q.id) pieces)) (ids_of_parts stated.evidence)
  pub checked : IsChecked (codes_of pieces) stated.evidence
  pub code : IfSome (words_over (codes_of pieces) stated.evidence) (IsCodeOf (stated_entry stated.evidence))
  pub small : stored_words pieces + stored_by p ≤ MAX_STORED
  pub piece : p ≡ piece_of (codes_of pieces) id document stated

-- the submission made a piece, whose size is answered, and the pieces are those of before and this one after them
pub record AddsPiece (old new : List PieceValue) (id document : List ℕ) (size : Option ℕ) : Type 0 where
  pub piece : PieceValue
  pub made : submitted old id document ≡ Ok piece
  pub pieces : new ≡ old ++ piece ∷ []
  pub answer : size ≡ piece.size
