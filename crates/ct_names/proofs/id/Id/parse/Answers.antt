use Rattle.std.proofs.Common.{sym, ◌∙◌}
use Rattle.ct_names.proofs.Ids.{kept}
use Rattle.ct_names.proofs.id.Id.parse.Goals as goal

pub invariant_of-result : goal.invariant_of-result
invariant_of-result c = rw c.copy_from_slice.ensures.after (kept c.args.text.now (sym c.is_name.ensures ∙ c.if-not-is_name.false))
