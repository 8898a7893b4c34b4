-- All words of the weight.
use Rattle.std.proofs.Common.{arith}
use Rattle.std.specs.Prelude.{Option, Some}
use Rattle.ct_words.specs.Counting.Binomials.{choose}
use Rattle.ct_words.proofs.Counting.Binomials.{one-le-choose}
use Rattle.ct_words.specs.declared.claim.Side.TheVariants.{Upper}
use Rattle.ct_words.proofs.EntryLemmas.{entry_limits}
use Rattle.ct_words.proofs.DigitCodes.{bound_from_weight}
use Rattle.ct_johnson.proofs.Weights.{weight_bound-all}
use Rattle.ct_rule_parts.specs.declared.support.Support.{Support}
use Rattle.ct_rule_parts.specs.Parts.{weight_of}
use Rattle.ct_rule_parts.proofs.Lawful.{IsLawful, same_number, no_worse-same}
use Rattle.ct_rule_parts.proofs.PlainEntries.{a_weight}
use Rattle.ct_rule_parts.proofs.WeightEntries.{weight_within, upper_of_weight}
use Rattle.ct_weight_rules.specs.AllWords.{all_words_of_weight}

pub all_words_of_weight-lawful : (c : Option Support) → IsLawful c all_words_of_weight
all_words_of_weight-lawful c = record {
  sound = λ e vs x stand entry condition known is.
      let limits = entry_limits e entry in
      let weighted = a_weight e condition in
      let w = weight_of e in
      same_number Upper e (choose e.n w) x is
      (upper_of_weight e (choose e.n w) weighted (one-le-choose e.n w (weight_within e entry weighted))
      (bound_from_weight e.n e.d w (choose e.n w) (weight_bound-all e.n e.d w (omega (arith, limits.distance_from)))));
  monotone = λ e us vs x h is. no_worse-same Upper (Some (choose e.n (weight_of e))) x is;
  few = λ e stand entry. omega arith;
}
