-- Complements.
use Rattle.std.proofs.Common.{◌≡◌, ◌-◌, [], ◌∷◌, arith}
use Rattle.std.specs.Prelude.{Option}
use Rattle.ct_words.specs.declared.entry.Entry.{Entry}
use Rattle.ct_words.specs.declared.claim.Side.TheVariants.{Lower, Upper}
use Rattle.ct_words.specs.Entry.{IsEntry}
use Rattle.ct_rule_parts.specs.declared.support.Support.{Support}
use Rattle.ct_rule_parts.specs.Parts.{weight_of, first}
use Rattle.ct_rule_parts.proofs.Lawful.{IsLawful, LeadsBack, only_value, same_number, no_worse-other, first-no_better, defined_entry, defined_condition}
use Rattle.ct_rule_parts.proofs.PlainEntries.{Weighted, a_weight, turns_back}
use Rattle.ct_rule_parts.proofs.WeightEntries.{weight_within, written_weight, lower_of_weight, upper_of_weight, turned_code, turned_bound}
use Rattle.ct_weight_rules.specs.Complemented.{complemented_below, complemented_above}
use Rattle.ct_weight_rules.specs.Neighbours.{complementary}

-- turned twice, an entry is as it was
turned_twice : (e : Entry) → IsEntry e → Weighted e → complementary (complementary e) ≡ e
turned_twice e entry weighted =
    let within = weight_within e entry weighted in
    written_weight (e.n - (e.n - weight_of e)) e weighted (omega arith)

pub complemented_below-lawful : (c : Option Support) → IsLawful c complemented_below
complemented_below-lawful c = record {
  sound = λ e vs x stand entry condition known is.
      let weighted = a_weight e condition in
      let premise = only_value _ vs known in
      same_number Lower e (first vs) x is
      (lower_of_weight e (first vs) weighted premise.range.0
      (turned_code e.n e.d (weight_of e) (first vs) (weight_within e entry weighted) premise.truth));
  monotone = λ e us vs x h is. no_worse-other Lower (first us) (first vs) x (first-no_better Lower us vs h) is;
  few = λ e stand entry. omega arith;
}

pub complemented_below-back : LeadsBack complemented_below (λ e. complementary e ∷ [])
complemented_below-back e f defined rests =
    turns_back complementary complementary e f
    (turned_twice e (defined_entry complemented_below e defined) (a_weight e (defined_condition complemented_below e defined)))
    rests

pub complemented_above-lawful : (c : Option Support) → IsLawful c complemented_above
complemented_above-lawful c = record {
  sound = λ e vs x stand entry condition known is.
      let weighted = a_weight e condition in
      let premise = only_value _ vs known in
      same_number Upper e (first vs) x is
      (upper_of_weight e (first vs) weighted premise.range.0
      (turned_bound e.n e.d (weight_of e) (first vs) premise.truth));
  monotone = λ e us vs x h is. no_worse-other Upper (first us) (first vs) x (first-no_better Upper us vs h) is;
  few = λ e stand entry. omega arith;
}

pub complemented_above-back : LeadsBack complemented_above (λ e. complementary e ∷ [])
complemented_above-back e f defined rests =
    turns_back complementary complementary e f
    (turned_twice e (defined_entry complemented_above e defined) (a_weight e (defined_condition complemented_above e defined)))
    rests
