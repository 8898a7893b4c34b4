-- A piece that is added, to pieces that are named otherwise.
use Rattle.std.proofs.Common.{◌≡◌, ℕ, List, Option, sym, subst}
use Rattle.ct_piece.specs.Piece.{PieceValue}
use Rattle.ct_piece.specs.Submission.{AddsPiece}

pub adds_so : (old old' new new' : List PieceValue) (id document : List ℕ) (size : Option ℕ) → old ≡ old' → new' ≡ new → AddsPiece old new id document size
    → AddsPiece old' new' id document size
adds_so old old' new new' id document size before after adds =
    subst (λ (ps : List PieceValue). AddsPiece ps new' id document size) before (subst (λ (ps : List PieceValue). AddsPiece old ps id document size) (sym after) adds)
