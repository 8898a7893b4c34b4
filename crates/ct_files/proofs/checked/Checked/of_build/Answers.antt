use Rattle.std.proofs.Common.{ℕ, Some, ap, ◌∙◌}
use Rattle.ct_kind.specs.KindParts.{support_from}
use Rattle.ct_files.proofs.checked.Checked.of_build.Goals as goal

pub returns-clause-support : goal.returns-clause-support
returns-clause-support c = c.support_from.ensures ∙ ap (λ (n : ℕ). support_from c.args.entry (Some n)) c.size_of.ensures
