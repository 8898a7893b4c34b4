use Rattle.std.proofs.Common.{length, ap, ◌∙◌}
use Rattle.ct_kept.proofs.LineLemmas.{saved_taken}
use Rattle.ct_kept.proofs.kept.Kept.save.Goals as goal

pub invariant_of-result : goal.invariant_of-result
invariant_of-result c = ap length (c.in_ok-from_slice.ensures.items ∙ c.deref.ensures.value) ∙ c.self.invariant

pub returns : goal.returns
returns c =
    let inside = c.self.inside in
    saved_taken inside.bounds inside.reasons.items inside.first.items inside.later.items c.args.self.now c.self.view_is
    c.in_ok-try_copy.field-0 c.in_ok-from_slice.field-0.items c.line_count.result c.in_ok-try_copy.ensures
    (c.in_ok-from_slice.ensures.items ∙ c.deref.ensures.value) c.line_count.ensures
