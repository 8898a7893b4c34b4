use Rattle.std.proofs.Common.{◌≡◌, ◌++◌, take}
use Rattle.std.specs.List.{flat_map}
use Rattle.ct_piece.specs.Text.{piece_text}
use Rattle.ct_replies.specs.Text.{ended}
use Rattle.ct_replies.proofs.text.put_pieces.Given as goal

abbrev pub invariant-loop-piece : goal.invariant-loop-piece
invariant-loop-piece l = l.text.items ≡ l.fn.text.items ++ flat_map (λ p. ended (piece_text p)) (take l.piece-index l.pieces)
