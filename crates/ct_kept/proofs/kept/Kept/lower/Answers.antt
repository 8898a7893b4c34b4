use Rattle.std.proofs.Common.{ℕ, ◌++◌, length, map, take, drop, sym, ap, ◌∙◌}
use Rattle.std.proofs.Math.Seq.{take-append_seam}
use Rattle.ct_rules.specs.Removal.{marked, lowered_line}
use Rattle.ct_kept.proofs.LineLemmas.{later_changed}
use Rattle.ct_kept.proofs.kept.Kept.lower.Goals as goal

pub returns : goal.returns
returns c =
    let inside = c.self.inside in
    let lowered = lowered_line (marked c.args.gone.now) in
    let new = c.lower_lines.new.lines in
    let past = drop (length new) inside.later.items in
    let long = c.lower_lines.auto.lines ∙ c.deref_mut.ensures.len in
    later_changed inside.bounds inside.reasons.items inside.first.items inside.later.items c.args.self.now c.self.view_is
    lowered (take inside.later.len (new ++ past))
    (ap (λ (k : ℕ). take k (new ++ past)) (sym long) ∙ take-append_seam new past ∙ c.lower_lines.ensures ∙ ap (map lowered) c.deref_mut.ensures.value)

pub invariant_of-self : goal.invariant_of-self
invariant_of-self c = c.self.invariant
