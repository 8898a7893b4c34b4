use Rattle.std.proofs.Common.{◌≡◌, ◌++◌, take}
use Rattle.std.specs.List.{flat_map}
use Rattle.ct_piece.specs.Dump.{piece_dump}
use Rattle.ct_piece.proofs.dump.put_submissions.Given as goal

abbrev pub invariant-loop-piece : goal.invariant-loop-piece
invariant-loop-piece l = l.text.items ≡ l.fn.text.items ++ flat_map piece_dump (take l.piece-index l.pieces)
