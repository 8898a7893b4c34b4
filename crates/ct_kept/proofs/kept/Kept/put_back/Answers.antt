use Rattle.ct_kept.proofs.LineLemmas.{undone}
use Rattle.ct_kept.proofs.kept.Kept.put_back.Goals as goal

pub invariant_of-self : goal.invariant_of-self
invariant_of-self c = c.undo.invariant

pub returns : goal.returns
returns c =
    let inside = c.self.inside in
    let undo = c.undo.inside in
    undone inside.bounds inside.reasons.items inside.first.items inside.later.items c.args.self.now c.self.view_is
    undo.bounds undo.reasons.items undo.later.items c.args.undo c.undo.view_is
