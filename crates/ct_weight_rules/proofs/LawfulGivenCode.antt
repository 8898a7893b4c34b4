-- A code of constant weight that is handed in.
use Rattle.std.proofs.Common.{arith}
use Rattle.std.specs.Prelude.{Option}
use Rattle.ct_words.specs.declared.claim.Side.TheVariants.{Lower}
use Rattle.ct_rule_parts.specs.declared.support.Support.{Support}
use Rattle.ct_rule_parts.proofs.Lawful.{IsLawful, no_worse-same, support_number}
use Rattle.ct_weight_rules.specs.GivenCode.{given_code_of_weight}

pub given_code_of_weight-lawful : (c : Option Support) → IsLawful c (given_code_of_weight c)
given_code_of_weight-lawful c = record {
  sound = λ e vs x stand entry condition known is. support_number c e x stand is;
  monotone = λ e us vs x h is. no_worse-same Lower _ x is;
  few = λ e stand entry. omega arith;
}
