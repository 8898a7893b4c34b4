use Rattle.ct_rules.proofs.RuleNames.{named_again, argued_again, rule_named-is}
use Rattle.ct_laws.proofs.rules.rules_have_names.Goals as goal

pub returns : goal.returns
returns c = record {
  named = named_again;
  argued = argued_again;
  own = λ side name r h. let is = rule_named-is side name r h in (is.0, is.1.0, is.1.1);
}
