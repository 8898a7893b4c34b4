use Rattle.std.proofs.Common.{◌≡◌, map, take}
use Rattle.ct_derive.proofs.printing.ids_of.Given as goal

abbrev pub invariant-loop-piece : goal.invariant-loop-piece
invariant-loop-piece g l = l.ids.items ≡ map g.P.ShownPiece.id_of (take l.piece-index l.pieces)
