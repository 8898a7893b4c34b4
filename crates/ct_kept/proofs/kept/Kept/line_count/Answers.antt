use Rattle.std.proofs.Common.{◌∙◌}
use Rattle.ct_kept.proofs.LineLemmas.{all_lines}
use Rattle.ct_kept.proofs.kept.Kept.line_count.Goals as goal

pub returns : goal.returns
returns c =
    let inside = c.self.inside in
    all_lines inside.bounds inside.reasons.items inside.first.items inside.later.items c.args.self.now c.self.view_is
    c.len.result c.len-2.result (c.len.ensures ∙ inside.first.ok.0) (c.len-2.ensures ∙ inside.later.ok.0)
