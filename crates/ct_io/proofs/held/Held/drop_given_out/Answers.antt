use Rattle.std.proofs.Common.{◌≤◌, subst}
use Rattle.ct_io.specs.Inside.Buffer.{Buffer}
use Rattle.ct_io.proofs.HeldLemmas.{moved-searched, moved-within}
use Rattle.ct_io.proofs.held.Held.drop_given_out.Goals as goal

pub invariant_of-self : goal.invariant_of-self
invariant_of-self c =
    let inside = c.self.inside in
    let new = c.drop_front.new.bytes in
    moved-searched inside.start inside.searched inside.bytes.len new.len inside.bytes.items new.items c.self.invariant.0 inside.bytes.ok.0
    c.self.invariant.1 c.drop_front.ensures new.ok.0

pub returns-then-self-gt0-clause-no_more : goal.returns-then-self-gt0-clause-no_more
returns-then-self-gt0-clause-no_more c =
    let inside = c.self.inside in
    let new = c.drop_front.new.bytes in
    subst (λ (b : Buffer). new.len ≤ b.kept) c.self.view_is
    (moved-within inside.start inside.bytes.len new.len inside.bytes.items new.items inside.bytes.ok.0 c.drop_front.ensures new.ok.0)
