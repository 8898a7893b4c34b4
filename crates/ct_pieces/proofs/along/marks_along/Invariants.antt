use Rattle.std.proofs.Common.{◌≡◌, map, take}
use Rattle.ct_files.specs.PartNames.{has_name}
use Rattle.ct_piece.specs.Piece.{PieceValue}
use Rattle.ct_piece.specs.Withdrawal.{taken_along, is_id_among}
use Rattle.ct_pieces.proofs.AlongPass.{AreGone}
use Rattle.ct_pieces.proofs.along.marks_along.Given as goal

-- a mark for each so far, and the names of those that go
abbrev pub invariant-loop-piece : goal.invariant-loop-piece
invariant-loop-piece l = (l.marks.items ≡ map (λ (p : PieceValue). is_id_among (taken_along l.pieces l.fn.id) p.id) (take l.piece-index l.pieces))
    × AreGone l.pieces l.fn.id (has_name l.names) l.piece-index
