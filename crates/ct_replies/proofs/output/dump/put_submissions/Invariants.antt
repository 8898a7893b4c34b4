use Rattle.std.proofs.Common.{take}
use Rattle.std.specs.List.{flat_map}
use Rattle.ct_io.specs.Buffered.{Puts, buffered}
use Rattle.ct_piece.specs.Dump.{piece_dump}
use Rattle.ct_replies.proofs.output.dump.put_submissions.Given as goal

abbrev pub invariant-loop-piece : goal.invariant-loop-piece
invariant-loop-piece g l =
    Puts (buffered g.K.Sink.holds g.K.Sink.faults l.fn.sink l.fn.buffer) (buffered g.K.Sink.holds g.K.Sink.faults l.sink l.buffer)
    (flat_map piece_dump (take l.piece-index l.pieces))
