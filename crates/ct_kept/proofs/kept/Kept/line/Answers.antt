use Rattle.std.proofs.Common.{ℕ, ◌-◌, ◌<◌, ◌≤◌, subst, sym, ◌∙◌}
use Rattle.ct_kept.proofs.LineLemmas.{line_in_first, line_in_later, later-within}
use Rattle.ct_kept.proofs.kept.Kept.line.Goals as goal

pub returns-then-number-len : goal.returns-then-number-len
returns-then-number-len c =
    let inside = c.self.inside in
    line_in_first inside.bounds inside.reasons.items inside.first.items inside.later.items c.args.self.now c.self.view_is
    c.args.number c.len.result c.index.result.now (c.len.ensures ∙ inside.first.ok.0) c.if-number-len.true c.index.ensures

pub index-requires-else-number-len : goal.index-requires-else-number-len
index-requires-else-number-len c =
    let inside = c.self.inside in
    later-within inside.bounds inside.reasons.items inside.first.items inside.later.items c.args.self.now c.self.view_is
    c.args.number c.len-else-number-len.result inside.later.len (c.len-else-number-len.ensures ∙ inside.first.ok.0)
    (subst (λ (m : ℕ). m ≤ c.args.number) (c.len.ensures ∙ sym c.len-else-number-len.ensures) c.if-number-len.false) inside.later.ok.0 c.requires

pub returns-else-number-len : goal.returns-else-number-len
returns-else-number-len c =
    let inside = c.self.inside in
    let size = c.len-else-number-len.ensures ∙ inside.first.ok.0 in
    let above = subst (λ (m : ℕ). m ≤ c.args.number) (c.len.ensures ∙ sym c.len-else-number-len.ensures) c.if-number-len.false in
    let within =
    later-within inside.bounds inside.reasons.items inside.first.items inside.later.items c.args.self.now c.self.view_is
    c.args.number c.len-else-number-len.result inside.later.len size above inside.later.ok.0 c.requires in
    line_in_later inside.bounds inside.reasons.items inside.first.items inside.later.items c.args.self.now c.self.view_is
    c.args.number c.len-else-number-len.result c.index-else-number-len.result.now size above
    (subst (λ (m : ℕ). c.args.number - c.len-else-number-len.result < m) inside.later.ok.0 within) c.index-else-number-len.ensures
