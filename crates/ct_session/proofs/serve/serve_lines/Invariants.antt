use Rattle.std.proofs.Common.{[]}
use Rattle.ct_io.specs.Buffered.{buffered}
use Rattle.ct_session.specs.Inside.Serving.{Serves, devices, unserved}
use Rattle.ct_session.proofs.serve.serve_lines.Given as goal

abbrev pub invariant-lines : goal.invariant-lines
invariant-lines g l =
    Serves l.reader l.session (devices g.S.Source.left g.S.Source.faults l.fn.source (buffered g.K.Sink.holds g.K.Sink.faults l.fn.sink []))
    (devices g.S.Source.left g.S.Source.faults l.source (buffered g.K.Sink.holds g.K.Sink.faults l.sink l.buffer))

abbrev pub decreases-lines : goal.decreases-lines
decreases-lines g l = unserved l.reader
