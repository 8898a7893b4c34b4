-- Far words.
use Rattle.std.proofs.Common.{◌-◌, ◌*◌, min, nat_lt, ltb-true, arith}
use Rattle.std.specs.Prelude.{Option, Some}
use Rattle.std.proofs.lemmas.Bool.{and_parts}
use Rattle.ct_words.specs.declared.claim.Side.TheVariants.{Upper}
use Rattle.ct_words.proofs.DigitCodes.{bound_from_weight}
use Rattle.ct_johnson.proofs.Weights.{weight_bound-apart}
use Rattle.ct_rule_parts.specs.declared.support.Support.{Support}
use Rattle.ct_rule_parts.specs.Parts.{has_weight, weight_of}
use Rattle.ct_rule_parts.proofs.Lawful.{IsLawful, same_number, no_worse-same}
use Rattle.ct_rule_parts.proofs.PlainEntries.{a_weight}
use Rattle.ct_rule_parts.proofs.WeightEntries.{upper_of_weight}
use Rattle.ct_weight_rules.specs.FarWords.{far_words_of_weight}

pub far_words_of_weight-lawful : (c : Option Support) → IsLawful c far_words_of_weight
far_words_of_weight-lawful c = record {
  sound = λ e vs x stand entry condition known is.
      let w = weight_of e in
      let most = 2 * min w (e.n - w) in
      let parts = and_parts (has_weight e) (nat_lt most e.d) condition in
      same_number Upper e 1 x is
      (upper_of_weight e 1 (a_weight e parts.0) (omega arith)
      (bound_from_weight e.n e.d w 1 (weight_bound-apart e.n e.d w (ltb-true most e.d parts.1))));
  monotone = λ e us vs x h is. no_worse-same Upper (Some 1) x is;
  few = λ e stand entry. omega arith;
}
