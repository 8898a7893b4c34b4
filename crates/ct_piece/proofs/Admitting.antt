-- What a submission makes, once its document is read.
use Rattle.std.proofs.Common.{◌≡◌, ℕ, List, Result, Ok, ap, ◌∙◌}
use Rattle.ct_files.specs.Document.{DocumentValue, document_read_of}
use Rattle.ct_kind.specs.Named.{NamedCode}
use Rattle.ct_kind.specs.declared.fault.SubmitFault.{SubmitFault}
use Rattle.ct_piece.specs.Piece.{PieceValue}
use Rattle.ct_piece.specs.Submission.{piece_from}
use Rattle.ct_piece.specs.Inside.Making.{made_of}

-- a document that is read makes what it states makes
pub made_of-read : (known : List NamedCode) (id document : List ℕ) (stated : DocumentValue) (made : Result PieceValue SubmitFault) → document_read_of document ≡ Ok stated
    → made_of known id document stated ≡ made → piece_from known id document (document_read_of document) ≡ made
made_of-read known id document stated made read is = ap (piece_from known id document) read ∙ is
