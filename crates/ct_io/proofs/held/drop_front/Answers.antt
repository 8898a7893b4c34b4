use Rattle.std.proofs.Common.{◌-◌, take, ap, ◌∙◌}
use Rattle.ct_io.proofs.HeldLemmas.{front-dropped}
use Rattle.ct_io.proofs.held.drop_front.Goals as goal

pub returns : goal.returns
returns c =
    let bytes = c.args.bytes.now.items in
    let count = c.args.count in
    let rest = c.len.ensures ∙ c.args.bytes.now.ok.0 in
    c.truncate.ensures.items ∙ ap (take (c.len.result - count)) c.rotate_left.ensures.items
    ∙ front-dropped bytes count (c.len.result - count) (ap (λ k. k - count) rest)
