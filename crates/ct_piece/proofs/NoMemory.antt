-- A submission is never refused for want of memory.
use Rattle.std.proofs.Common.{◌≡◌, ◌≢◌, ℕ, ◌+◌, Bool, true, false, cond, List, length, Option, Some, None, option_map, Result, Ok, Err, refl, ap, ◌∙◌, nat_le}
use Rattle.ct_words.specs.Pairs.{first_of}
use Rattle.ct_fields.specs.declared.fault.DocumentFault.{DocumentFault}
use Rattle.ct_files.specs.Document.{DocumentValue, document_read_of}
use Rattle.ct_kind.specs.Named.{NamedCode, first_missing}
use Rattle.ct_kind.specs.declared.fault.SubmitFault.{SubmitFault}
use Rattle.ct_kind.specs.declared.fault.SubmitFault.TheVariants.{FullPieces, NoSuch, FullWords, Memory}
use Rattle.ct_files.specs.ByKind.{ids_of_parts, own_reason}
use Rattle.ct_piece.specs.Piece.{PieceValue, has_id, stored_by, stored_words}
use Rattle.ct_piece.specs.Codes.{codes_of}
use Rattle.ct_piece.specs.Submission.{piece_of, piece_from, submitted}
use Rattle.ct_piece.specs.Inside.Making.{made_unless, made_of, stored_beside, unless_full}
use Rattle.ct_piece.specs.declared.limits.TheConstants.{MAX_PIECES, MAX_STORED}
use Rattle.ct_files.proofs.OwnReasons.{reason-own}

-- what is made of a document that was read
made-memory : (known : List NamedCode) (id document : List ℕ) (stated : DocumentValue) → made_of known id document stated ≢ Err Memory
made-memory known id document stated =
    at (first_missing known (ids_of_parts stated.evidence)) (own_reason known stated.evidence) refl
  where
    at : (missing : Option (List ℕ)) (own : Option SubmitFault) → own_reason known stated.evidence ≡ own
        → made_unless (first_of (option_map NoSuch missing) own) (piece_of known id document stated) ≢ Err Memory
    at (Some part) own is h = absurd cc
    at None (Some first) is h = let same : first ≡ Memory = cc in reason-own known stated.evidence Memory (is ∙ ap Some same)
    at None None is h = absurd cc

-- and of any document
from-memory : (known : List NamedCode) (id document : List ℕ) (read : Result DocumentValue DocumentFault) → piece_from known id document read ≢ Err Memory
from-memory known id document (Ok stated) h = made-memory known id document stated h
from-memory known id document (Err reason) h = absurd cc

beside-memory : (stored : ℕ) (made : Result PieceValue SubmitFault) → made ≢ Err Memory → stored_beside stored made ≢ Err Memory
beside-memory stored (Err reason) other h = other h
beside-memory stored (Ok piece) other h = at (nat_le (stored + stored_by piece) MAX_STORED) h where
  at : (b : Bool) → cond b (Ok piece) (Err (FullWords (stored + stored_by piece))) ≢ Err Memory
  at true h = absurd cc
  at false h = absurd cc

full-memory : (taken : Bool) (count : ℕ) (made : Result PieceValue SubmitFault) → made ≢ Err Memory → unless_full taken count made ≢ Err Memory
full-memory true count made other h = absurd cc
full-memory false count made other h = at (nat_le MAX_PIECES count) h where
  at : (b : Bool) → cond b (Err (FullPieces count)) made ≢ Err Memory
  at true h = absurd cc
  at false h = other h

pub submitted-memory : (pieces : List PieceValue) (id document : List ℕ) → submitted pieces id document ≢ Err Memory
unfolding submitted
submitted-memory pieces id document h =
    full-memory (has_id id pieces) (length pieces) (stored_beside (stored_words pieces) (piece_from (codes_of pieces) id document (document_read_of document)))
    (beside-memory (stored_words pieces) (piece_from (codes_of pieces) id document (document_read_of document))
    (from-memory (codes_of pieces) id document (document_read_of document))) h
