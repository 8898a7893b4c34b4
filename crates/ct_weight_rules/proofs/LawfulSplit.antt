-- Words by one digit.
use Rattle.std.proofs.Common.{ℕ, ◌+◌, ◌-◌, ◌≤◌, nat_le, [], ◌∷◌, Contains, leb-true, arith}
use Rattle.std.specs.Prelude.{Option}
use Rattle.std.proofs.lemmas.Bool.{and_parts}
use Rattle.ct_words.specs.declared.claim.Side.TheVariants.{Upper}
use Rattle.ct_words.specs.Code.{IsTrueUpper}
use Rattle.ct_words.specs.Entry.{constant_weight}
use Rattle.ct_words.proofs.DigitCodes.{bound_from_weight, weight_bound_from_codes}
use Rattle.ct_words.proofs.EntryLemmas.{entry_limits}
use Rattle.ct_johnson.proofs.OnePlace.{weight_bound-halves}
use Rattle.ct_rule_parts.specs.declared.support.Support.{Support}
use Rattle.ct_rule_parts.specs.Parts.{has_weight, weight_of, first, second}
use Rattle.ct_rule_parts.proofs.Lawful.{IsLawful, LeadsBack, both_values, same_number, no_worse-other, first-no_better, second-no_better, defined_entry, defined_condition}
use Rattle.ct_rule_parts.proofs.PlainEntries.{a_weight, two_items, in_front, behind}
use Rattle.ct_rule_parts.proofs.WeightEntries.{upper_of_weight}
use Rattle.ct_weight_rules.specs.Inside.RestedOn.{by_split}
use Rattle.ct_weight_rules.specs.Split.{split}
use Rattle.ct_weight_rules.specs.Neighbours.{zero_less, zero_more, one_less, one_more}
use Rattle.ct_weight_rules.proofs.WeightNeighbours.{zero_more-zero_less, one_more-one_less}

-- what bounds the words with a 0 at the first place and those with a 1 there, together bounds all
split_bound : (n d w u v : ℕ) → 1 ≤ n → 1 ≤ d → 1 ≤ w → IsTrueUpper (constant_weight (n - 1) d w) u
    → IsTrueUpper (constant_weight (n - 1) d (w - 1)) v
    → IsTrueUpper (constant_weight n d w) (u + v)
split_bound n d w u v long far heavy zeros ones =
    bound_from_weight n d w (u + v)
    (weight_bound-halves n d w u v long heavy (weight_bound_from_codes (n - 1) d w u far zeros)
    (weight_bound_from_codes (n - 1) d (w - 1) v far ones))

pub split-lawful : (c : Option Support) → IsLawful c split
split-lawful c = record {
  sound = λ e vs x stand entry condition known is.
      let limits = entry_limits e entry in
      let parts = and_parts (has_weight e) (nat_le 1 (weight_of e)) condition in
      let both = both_values _ _ vs known in
      let some = both.0.range.0 in
      same_number Upper e (first vs + second vs) x is
      (upper_of_weight e (first vs + second vs) (a_weight e parts.0) (omega arith)
      (split_bound e.n e.d (weight_of e) (first vs) (second vs) limits.length_from (omega (arith, limits.distance_from))
      (leb-true 1 (weight_of e) parts.1) both.0.truth both.1.truth));
  monotone = λ e us vs x h is.
      let zeros = first-no_better Upper us vs h in
      let ones = second-no_better Upper us vs h in
      no_worse-other Upper (first us + second us) (first vs + second vs) x (omega arith) is;
  few = λ e stand entry. omega arith;
}

pub split-back : LeadsBack split by_split
split-back e f defined rests =
    let entry = defined_entry split e defined in
    let parts = and_parts (has_weight e) (nat_le 1 (weight_of e)) (defined_condition split e defined) in
    let weighted = a_weight e parts.0 in
    two_items (λ g. Contains (by_split g) e) (zero_less e) (one_less e) f
    (in_front (zero_more (zero_less e)) e (one_more (zero_less e) ∷ []) (zero_more-zero_less e entry weighted))
    (behind (zero_more (one_less e)) e (one_more (one_less e) ∷ [])
    (in_front (one_more (one_less e)) e [] (one_more-one_less e entry weighted (leb-true 1 (weight_of e) parts.1))))
    rests
