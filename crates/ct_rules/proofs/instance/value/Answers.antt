-- The bound is true by the soundness of the rules.
use Rattle.ct_rules.proofs.RuleLaws.{sound_value}
use Rattle.ct_rules.proofs.instance.value.Goals as goal

pub returns-clause-sound : goal.returns-clause-sound
returns-clause-sound c =
    sound_value c.args.supports.now c.args.rule c.args.entry c.args.premises.now c.value_where_defined.result c.value_where_defined.ensures.value
