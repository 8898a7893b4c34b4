-- One word.
use Rattle.std.proofs.Common.{arith}
use Rattle.std.specs.Prelude.{Option, Some}
use Rattle.ct_words.specs.declared.claim.Side.TheVariants.{Lower}
use Rattle.ct_rule_parts.specs.declared.support.Support.{Support}
use Rattle.ct_rule_parts.proofs.Lawful.{IsLawful, same_number, no_worse-same, one_number}
use Rattle.ct_weight_rules.specs.OneWord.{one_word_of_weight}

pub one_word_of_weight-lawful : (c : Option Support) → IsLawful c one_word_of_weight
one_word_of_weight-lawful c = record {
  sound = λ e vs x stand entry weighted known is. same_number Lower e 1 x is (one_number e entry);
  monotone = λ e us vs x h is. no_worse-same Lower (Some 1) x is;
  few = λ e stand entry. omega arith;
}
