use Rattle.std.proofs.Common.{◌+◌, drop, sym, ap, ◌∙◌}
use Rattle.std.proofs.lemmas.List.{drop_more}
use Rattle.ct_codes.specs.Inside.Light.{reduced}
use Rattle.ct_codes.proofs.light.reduced.Goals as goal

pub loop-pivot-preserved : goal.loop-pivot-preserved
loop-pivot-preserved c =
    let i = c.loop-pivot.pivot-index in
    ap (reduced (drop (i + 1) c.args.pivots.now)) c.reduced_by-rest.ensures
    ∙ ap (λ ps. reduced ps c.loop-pivot.rest) (sym (drop_more c.args.pivots.now i _ c.loop-pivot-test.true))
    ∙ c.loop-pivot.invariant
