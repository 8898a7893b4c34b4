use Rattle.std.proofs.Common.{ap}
use Rattle.std.specs.Prelude.{is_some}
use Rattle.ct_rules.specs.Rule.{value_of}
use Rattle.ct_rules.proofs.RuleValues.{some_value, value_of-monotone, value_of-upper}
use Rattle.ct_rules.proofs.RuleLaws.{value_is_monotone}
use Rattle.ct_laws.proofs.rules.rules_are_monotone.Goals as goal

pub returns : goal.returns
returns c = record {
  no_better = value_of-monotone;
  upper = value_of-upper;
  true_premises = λ supports r e claims us stand premises true_claims worse some.
      let value = some_value (value_of supports r e us) some in
      let better = value_is_monotone supports r e claims us value.0 stand premises true_claims worse value.1 in
      ap is_some better.1;
}
