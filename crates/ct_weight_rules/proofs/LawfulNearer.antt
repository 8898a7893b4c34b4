-- A smaller distance.
use Rattle.std.proofs.Common.{◌+◌, ◌-◌, [], ◌∷◌, arith}
use Rattle.std.specs.Prelude.{Option}
use Rattle.ct_words.specs.declared.claim.Side.TheVariants.{Lower, Upper}
use Rattle.ct_johnson.proofs.Weights.{code-nearer}
use Rattle.ct_rule_parts.specs.declared.support.Support.{Support}
use Rattle.ct_rule_parts.specs.Parts.{weight_of, first}
use Rattle.ct_rule_parts.proofs.Lawful.{IsLawful, LeadsBack, only_value, same_number, no_worse-other, first-no_better, defined_entry, defined_condition}
use Rattle.ct_rule_parts.proofs.PlainEntries.{a_weight, turns_back}
use Rattle.ct_rule_parts.proofs.WeightEntries.{lower_of_weight, upper_of_weight}
use Rattle.ct_weight_rules.specs.Nearer.{nearer_below_of_weight, nearer_above_of_weight}
use Rattle.ct_weight_rules.specs.Neighbours.{two_nearer, two_farther}
use Rattle.ct_weight_rules.proofs.WeightNeighbours.{two_nearer-two_farther, two_farther-two_nearer}

pub nearer_below_of_weight-lawful : (c : Option Support) → IsLawful c nearer_below_of_weight
nearer_below_of_weight-lawful c = record {
  sound = λ e vs x stand entry condition known is.
      let premise = only_value _ vs known in
      let code = premise.truth in
      same_number Lower e (first vs) x is
      (lower_of_weight e (first vs) (a_weight e condition) premise.range.0
      (code.0, code-nearer e.n (e.d + 2) e.d (weight_of e) code.0 (omega arith) code.1, code.2));
  monotone = λ e us vs x h is. no_worse-other Lower (first us) (first vs) x (first-no_better Lower us vs h) is;
  few = λ e stand entry. omega arith;
}

pub nearer_below_of_weight-back : LeadsBack nearer_below_of_weight (λ e. two_nearer e ∷ [])
nearer_below_of_weight-back e f defined rests =
    turns_back two_farther two_nearer e f
    (two_nearer-two_farther e (a_weight e (defined_condition nearer_below_of_weight e defined))) rests

pub nearer_above_of_weight-lawful : (c : Option Support) → IsLawful c nearer_above_of_weight
nearer_above_of_weight-lawful c = record {
  sound = λ e vs x stand entry condition known is.
      let premise = only_value _ vs known in
      same_number Upper e (first vs) x is
      (upper_of_weight e (first vs) (a_weight e condition) premise.range.0
      (λ words code. premise.truth words (code-nearer e.n e.d (e.d - 2) (weight_of e) words (omega arith) code)));
  monotone = λ e us vs x h is. no_worse-other Upper (first us) (first vs) x (first-no_better Upper us vs h) is;
  few = λ e stand entry. omega arith;
}

pub nearer_above_of_weight-back : LeadsBack nearer_above_of_weight (λ e. two_farther e ∷ [])
nearer_above_of_weight-back e f defined rests =
    turns_back two_nearer two_farther e f
    (two_farther-two_nearer e (defined_entry nearer_above_of_weight e defined) (a_weight e (defined_condition nearer_above_of_weight e defined)))
    rests
