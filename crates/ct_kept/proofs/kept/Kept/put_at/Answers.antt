use Rattle.std.proofs.Common.{ℕ, ◌+◌, ◌<◌, length-set, subst, sym, ap, ◌∙◌}
use Rattle.ct_rules.specs.Derivation.{LineValue}
use Rattle.ct_kept.proofs.LineLemmas.{line_put}
use Rattle.ct_kept.proofs.kept.Kept.put_at.Goals as goal

pub index_mut-requires : goal.index_mut-requires
index_mut-requires c = subst (λ (m : ℕ). c.args.number < m) (sym (c.self.inside.reasons.ok.0 ∙ c.self.invariant)) c.requires.bound

pub invariant_of-self : goal.invariant_of-self
invariant_of-self c = c.self.invariant

pub invariant_of-self-2 : goal.invariant_of-self-2
invariant_of-self-2 c = length-set c.self.inside.reasons.items c.args.number (c.len.result + c.len-2.result) ∙ c.self.invariant

pub returns-clause-put : goal.returns-clause-put
returns-clause-put c =
    let inside = c.self.inside in
    line_put inside.bounds inside.reasons.items inside.first.items inside.later.items c.args.self.now c.self.view_is
    c.args.number c.line.inside.claim.value c.len.result c.len-2.result c.args.line c.set_at.new.self c.push.new.self.items c.requires.number
    (ap (λ (l : LineValue). l.claim.value) c.line.view_is) (c.len.ensures ∙ inside.first.ok.0) (c.len-2.ensures ∙ inside.later.ok.0) c.set_at.ensures
    c.in_ok-push.ensures.items

pub set_at-requires : goal.set_at-requires
set_at-requires c = c.requires.bound
