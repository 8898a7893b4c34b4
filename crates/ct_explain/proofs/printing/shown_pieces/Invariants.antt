use Rattle.std.proofs.Common.{◌≡◌, take}
use Rattle.ct_explain.proofs.printing.shown_pieces.Given as goal

abbrev pub invariant-loop-piece : goal.invariant-loop-piece
invariant-loop-piece l = l.shown.items ≡ take l.piece-index l.pieces
