-- A digit more.
use Rattle.std.proofs.Common.{◌≡◌, ℕ, ◌+◌, ◌-◌, ◌≤◌, nat_le, leb-true, subst, ◌∙◌, [], ◌∷◌, arith}
use Rattle.std.specs.Prelude.{Option, Some}
use Rattle.std.proofs.lemmas.Bool.{and_parts}
use Rattle.ct_words.specs.declared.claim.Side.TheVariants.{Lower}
use Rattle.ct_words.specs.Code.{IsTrueLower}
use Rattle.ct_words.specs.Entry.{constant_weight}
use Rattle.ct_words.proofs.EntryLemmas.{entry_limits}
use Rattle.ct_words.specs.Constructions.Append.{lengthened, one_appended}
use Rattle.ct_words.proofs.Constructions.AppendLemmas.{IsCode-lengthened, IsCode-one_appended, length-lengthened, length-one_appended}
use Rattle.ct_rule_parts.specs.declared.support.Support.{Support}
use Rattle.ct_rule_parts.specs.Parts.{has_weight, weight_of, first}
use Rattle.ct_rule_parts.proofs.Lawful.{IsLawful, LeadsBack, only_value, same_number, no_worse-other, first-no_better, defined_entry, defined_condition}
use Rattle.ct_rule_parts.proofs.PlainEntries.{a_weight, turns_back}
use Rattle.ct_rule_parts.proofs.WeightEntries.{lower_of_weight}
use Rattle.ct_weight_rules.specs.Lengthened.{lengthened_by_zero, lengthened_by_one}
use Rattle.ct_weight_rules.specs.Neighbours.{zero_less, zero_more, one_less, one_more}
use Rattle.ct_weight_rules.proofs.WeightNeighbours.{zero_more-zero_less, one_more-one_less}

-- a 0 after each word
with_zero : (n d w v : ℕ) → 1 ≤ n → IsTrueLower (constant_weight (n - 1) d w) v → IsTrueLower (constant_weight n d w) v
with_zero n d w v some code =
    let long : n - 1 + 1 ≡ n = omega arith in
    subst (λ m. IsTrueLower (constant_weight m d w) v) long
    (lengthened code.0, IsCode-lengthened (n - 1) d (Some w) code.0 code.1, length-lengthened code.0 ∙ code.2)

-- a 1 after each word
with_one : (n d w v : ℕ) → 1 ≤ n → 1 ≤ w → IsTrueLower (constant_weight (n - 1) d (w - 1)) v → IsTrueLower (constant_weight n d w) v
with_one n d w v some heavy code =
    let long : n - 1 + 1 ≡ n = omega arith in
    let weight : w - 1 + 1 ≡ w = omega arith in
    subst (λ m. IsTrueLower (constant_weight m d w) v) long
    (subst (λ k. IsTrueLower (constant_weight (n - 1 + 1) d k) v) weight
    (one_appended code.0, IsCode-one_appended (n - 1) d (Some (w - 1)) code.0 code.1, length-one_appended code.0 ∙ code.2))

pub lengthened_by_zero-lawful : (c : Option Support) → IsLawful c lengthened_by_zero
lengthened_by_zero-lawful c = record {
  sound = λ e vs x stand entry condition known is.
      let limits = entry_limits e entry in
      let premise = only_value _ vs known in
      same_number Lower e (first vs) x is
      (lower_of_weight e (first vs) (a_weight e condition) premise.range.0
      (with_zero e.n e.d (weight_of e) (first vs) limits.length_from premise.truth));
  monotone = λ e us vs x h is. no_worse-other Lower (first us) (first vs) x (first-no_better Lower us vs h) is;
  few = λ e stand entry. omega arith;
}

pub lengthened_by_zero-back : LeadsBack lengthened_by_zero (λ e. zero_more e ∷ [])
lengthened_by_zero-back e f defined rests =
    turns_back zero_less zero_more e f
    (zero_more-zero_less e (defined_entry lengthened_by_zero e defined) (a_weight e (defined_condition lengthened_by_zero e defined)))
    rests

pub lengthened_by_one-lawful : (c : Option Support) → IsLawful c lengthened_by_one
lengthened_by_one-lawful c = record {
  sound = λ e vs x stand entry condition known is.
      let limits = entry_limits e entry in
      let parts = and_parts (has_weight e) (nat_le 1 (weight_of e)) condition in
      let premise = only_value _ vs known in
      same_number Lower e (first vs) x is
      (lower_of_weight e (first vs) (a_weight e parts.0) premise.range.0
      (with_one e.n e.d (weight_of e) (first vs) limits.length_from (leb-true 1 (weight_of e) parts.1) premise.truth));
  monotone = λ e us vs x h is. no_worse-other Lower (first us) (first vs) x (first-no_better Lower us vs h) is;
  few = λ e stand entry. omega arith;
}

pub lengthened_by_one-back : LeadsBack lengthened_by_one (λ e. one_more e ∷ [])
lengthened_by_one-back e f defined rests =
    let parts = and_parts (has_weight e) (nat_le 1 (weight_of e)) (defined_condition lengthened_by_one e defined) in
    turns_back one_less one_more e f
    (one_more-one_less e (defined_entry lengthened_by_one e defined) (a_weight e parts.0) (leb-true 1 (weight_of e) parts.1))
    rests
