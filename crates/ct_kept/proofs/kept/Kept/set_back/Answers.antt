use Rattle.std.proofs.Common.{ap, ◌∙◌, length}
use Rattle.ct_kept.specs.Kept.{BaseValue}
use Rattle.ct_kept.proofs.LineLemmas.{undo_taken, back_set}
use Rattle.ct_kept.proofs.kept.Kept.set_back.Goals as goal

pub invariant_of-self : goal.invariant_of-self
invariant_of-self c =
    ap (λ v. length v.items) c.replace-2.ensures.after ∙ ap length (c.in_ok-reasons.ensures.items ∙ c.deref.ensures.value) ∙ c.base.invariant

pub invariant_of-result : goal.invariant_of-result
invariant_of-result c = ap (λ v. length v.items) c.replace-2.ensures.value ∙ c.self.invariant

pub returns-clause-undo : goal.returns-clause-undo
returns-clause-undo c =
    let inside = c.self.inside in
    undo_taken inside.bounds inside.reasons.items inside.first.items inside.later.items c.args.self.now c.self.view_is
    c.replace.result c.replace-2.result.items c.replace-3.result.items c.replace.ensures.value (ap (λ v. v.items) c.replace-2.ensures.value)
    (ap (λ v. v.items) c.replace-3.ensures.value)

pub returns-clause-back : goal.returns-clause-back
returns-clause-back c =
    let inside = c.self.inside in
    let bounds = c.replace.ensures.after ∙ c.in_ok-bounds.ensures ∙ ap (λ (b : BaseValue). b.bounds) c.base.view_is in
    let reasons = c.in_ok-reasons.ensures.items ∙ c.deref.ensures.value ∙ ap (λ (b : BaseValue). b.reasons) c.base.view_is in
    back_set inside.bounds inside.reasons.items inside.first.items inside.later.items c.args.self.now c.self.view_is
    c.replace.new.dest c.replace-2.new.dest.items c.replace-3.new.dest.items c.args.base.now bounds (ap (λ v. v.items) c.replace-2.ensures.after ∙ reasons)
    (ap (λ v. v.items) c.replace-3.ensures.after ∙ c.new.ensures.items)
