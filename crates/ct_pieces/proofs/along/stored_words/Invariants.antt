use Rattle.std.proofs.Common.{◌≡◌, take}
use Rattle.ct_piece.specs.Piece.{stored_words}
use Rattle.ct_pieces.proofs.along.stored_words.Given as goal

-- how many words those so far store
abbrev pub invariant-loop-piece : goal.invariant-loop-piece
invariant-loop-piece l = l.stored ≡ stored_words (take l.piece-index l.pieces)
