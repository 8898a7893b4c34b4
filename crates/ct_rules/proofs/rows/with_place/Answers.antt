use Rattle.std.proofs.Common.{◌∙◌}
use Rattle.ct_rules.proofs.RuleNames.{placed}
use Rattle.ct_rules.proofs.rows.with_place.Goals as goal

pub returns : goal.returns
returns c = c.with_arguments.ensures ∙ placed c.args.rule c.args.place
