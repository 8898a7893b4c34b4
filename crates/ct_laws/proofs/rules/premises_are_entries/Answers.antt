use Rattle.ct_rules.proofs.RuleLaws.{rule_entry, premises_in_table, premises_on_side, premises_are_few}
use Rattle.ct_rules.proofs.Applied.{value-premises}
use Rattle.ct_laws.proofs.rules.premises_are_entries.Goals as goal

pub returns : goal.returns
returns c = record {
  entry = rule_entry;
  premises = premises_in_table;
  side = premises_on_side;
  few = premises_are_few;
  defined = value-premises;
}
