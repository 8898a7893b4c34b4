use Rattle.std.proofs.Common.{ℕ, List, subst}
use Rattle.std.specs.Io.KnownBytes.{Appends}
use Rattle.ct_io.proofs.sink_buffer.write_gathered.Goals as goal

pub returns-clause-written : goal.returns-clause-written
returns-clause-written g c =
    subst (λ (bytes : List ℕ). Appends (g.K.Sink.holds c.args.sink.now) (g.K.Sink.holds c.write_all.new.sink) bytes) c.deref.ensures.value
    c.in_ok-write_all.ensures.written
