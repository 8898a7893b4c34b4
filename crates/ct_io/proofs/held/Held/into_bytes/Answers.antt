use Rattle.std.proofs.Common.{ap, ◌∙◌}
use Rattle.ct_io.specs.Inside.Buffer.{Buffer}
use Rattle.ct_io.proofs.HeldLemmas.{all-kept}
use Rattle.ct_io.proofs.held.Held.into_bytes.Goals as goal

pub returns : goal.returns
returns c =
    let bytes = c.self.inside.bytes in
    all-kept c.self.inside.start bytes.len bytes.items c.args.self.bytes bytes.ok.0
    (ap (λ (b : Buffer). b.bytes) c.self.view_is ∙ c.drop_given_out.ensures.same)
    (ap (λ (b : Buffer). b.kept) c.self.view_is ∙ c.drop_given_out.ensures.kept)
