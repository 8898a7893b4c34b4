use Rattle.ct_rules.proofs.RuleLaws.{value_is_sound}
use Rattle.ct_laws.proofs.rules.rules_are_sound.Goals as goal

pub returns : goal.returns
returns c = value_is_sound
