-- The steps in which a submission makes a piece.
use Rattle.std.specs.Prelude.{ℕ, ◌+◌, Bool, nat_le, if◌then◌else◌, List, Option, Some, None, Result, Ok, Err}
use Rattle.ct_files.specs.Document.{DocumentValue}
use Rattle.ct_files.specs.ByKind.{evidence_reason}
use Rattle.ct_kind.specs.Named.{NamedCode}
use Rattle.ct_kind.specs.declared.fault.SubmitFault.{SubmitFault}
use Rattle.ct_kind.specs.declared.fault.SubmitFault.TheVariants as fault
use Rattle.ct_piece.specs.Piece.{PieceValue, stored_by}
use Rattle.ct_piece.specs.Submission.{piece_of}
use Rattle.ct_piece.specs.declared.limits.TheConstants.{MAX_PIECES, MAX_STORED}

-- the piece, where there is no reason against it
abbrev pub made_unless : Option SubmitFault → PieceValue → Result PieceValue SubmitFault
made_unless reason piece = elim reason [ None ↦ Ok piece | Some r ↦ Err r ]

-- the piece that a document makes which states this, over these codes, where there is no reason against its evidence
abbrev pub made_of : List NamedCode → List ℕ → List ℕ → DocumentValue → Result PieceValue SubmitFault
made_of known id document stated = made_unless (evidence_reason known stated.evidence) (piece_of known id document stated)

-- the piece where so many stored words are not too many
abbrev pub if_stored : ℕ → PieceValue → Result PieceValue SubmitFault
if_stored total piece = if nat_le total MAX_STORED then Ok piece else Err (fault.FullWords total)

-- the piece where its words may be stored beside those that are
abbrev pub stored_beside : ℕ → Result PieceValue SubmitFault → Result PieceValue SubmitFault
stored_beside stored made = elim made [ Err reason ↦ Err reason | Ok piece ↦ if_stored (stored + stored_by piece) piece ]

-- the piece where its id is not taken and there is room for one more
abbrev pub unless_full : Bool → ℕ → Result PieceValue SubmitFault → Result PieceValue SubmitFault
unless_full taken count made = if taken then Err fault.Taken else (if nat_le MAX_PIECES count then Err (fault.FullPieces count) else made)
