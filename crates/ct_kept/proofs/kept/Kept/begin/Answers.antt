use Rattle.std.proofs.Common.{ap, ◌∙◌, length}
use Rattle.ct_kept.proofs.LineLemmas.{all_begun, base_taken}
use Rattle.ct_kept.proofs.kept.Kept.begin.Goals as goal

pub invariant_of-self : goal.invariant_of-self
invariant_of-self c = c.self.invariant

pub invariant_of-base : goal.invariant_of-base
invariant_of-base c = ap length (c.in_ok-from_slice.ensures.items ∙ c.deref.ensures.value) ∙ c.self.invariant

pub returns-clause-base : goal.returns-clause-base
returns-clause-base c =
    let inside = c.self.inside in
    base_taken inside.bounds inside.reasons.items inside.first.items inside.later.items c.args.self.now c.self.view_is
    c.in_ok-try_copy.field-0 c.in_ok-from_slice.field-0.items c.in_ok-try_copy.ensures (c.in_ok-from_slice.ensures.items ∙ c.deref.ensures.value)

pub returns-clause-begun : goal.returns-clause-begun
returns-clause-begun c =
    let inside = c.self.inside in
    all_begun inside.bounds inside.reasons.items inside.first.items inside.later.items c.args.self.now c.self.view_is
    c.swap.new.x.items c.swap.new.y.items c.requires (ap (λ v. v.items) c.swap.ensures.x_after) (ap (λ v. v.items) c.swap.ensures.y_after)
