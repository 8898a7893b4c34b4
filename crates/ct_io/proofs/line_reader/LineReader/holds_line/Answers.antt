use Rattle.std.proofs.Common.{◌↔◌, IsTrue, is_some, subst}
use Rattle.ct_io.specs.Reader.{Reader, NeedsNoRead}
use Rattle.ct_io.proofs.IntakeLemmas.{NeedsNoRead-found, NeedsNoRead-ended}
use Rattle.ct_io.proofs.line_reader.LineReader.holds_line.Goals as goal

pub returns-else-self-clause-ready : goal.returns-else-self-clause-ready
returns-else-self-clause-ready c =
    let inside = c.self.inside.intake in
    rw c.is_some.ensures
    (subst (λ (r : Reader). IsTrue (is_some c.line_length.result) ↔ NeedsNoRead r.held r.ended) c.self.view_is
    (NeedsNoRead-found inside.held.bytes inside.ended c.line_length.result c.if-self.false c.line_length.ensures.feed c.line_length.ensures.none))

pub returns-then-self-clause-ready : goal.returns-then-self-clause-ready
returns-then-self-clause-ready c =
    let inside = c.self.inside.intake in
    subst (λ (r : Reader). IsTrue inside.ended ↔ NeedsNoRead r.held r.ended) c.self.view_is
    (NeedsNoRead-ended inside.held.bytes inside.ended c.if-self.true)
