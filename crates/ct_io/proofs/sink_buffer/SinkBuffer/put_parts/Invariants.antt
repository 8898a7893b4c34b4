use Rattle.std.proofs.Common.{take}
use Rattle.std.specs.List.{flat_map}
use Rattle.ct_io.specs.Buffered.{Puts, buffered}
use Rattle.ct_io.proofs.sink_buffer.SinkBuffer.put_parts.Given as goal

abbrev pub invariant-loop-part : goal.invariant-loop-part
invariant-loop-part g l =
    Puts (buffered g.K.Sink.holds g.K.Sink.faults l.fn.sink l.fn.self) (buffered g.K.Sink.holds g.K.Sink.faults l.sink l.self)
    (flat_map (λ part. part.now) (take l.part-index l.parts))
