-- Words with no one in common.
use Rattle.std.proofs.Common.{◌≡◌, ◌*◌, ◌/◌, ◌==◌, ◌≤◌, true, ap, subst, ◌∙◌, eqb-true, arith}
use Rattle.std.specs.Prelude.{Option, Some}
use Rattle.std.proofs.lemmas.Bool.{and_parts}
use Rattle.std.proofs.lemmas.Nat.{le-div}
use Rattle.ct_words.specs.declared.claim.Side.TheVariants.{Lower, Upper}
use Rattle.ct_words.specs.declared.entry.Entry.{Entry}
use Rattle.ct_words.specs.Code.{IsTrueLower, IsTrueUpper}
use Rattle.ct_words.specs.Entry.{IsEntry, constant_weight}
use Rattle.ct_words.proofs.DigitCodes.{bound_from_weight}
use Rattle.ct_words.proofs.EntryLemmas.{WeightFits, entry_limits}
use Rattle.ct_johnson.proofs.Weights.{weight_bound-disjoint}
use Rattle.ct_rule_parts.specs.declared.support.Support.{Support}
use Rattle.ct_rule_parts.specs.Parts.{has_weight, weight_of}
use Rattle.ct_rule_parts.proofs.Lawful.{IsLawful, same_number, no_worse-same}
use Rattle.ct_rule_parts.proofs.PlainEntries.{Weighted, a_weight}
use Rattle.ct_rule_parts.proofs.WeightEntries.{weight_within, lower_of_weight, upper_of_weight}
use Rattle.ct_weight_rules.specs.Disjoint.{has_disjoint_words, count_of_disjoint, disjoint_below, disjoint_above}
use Rattle.ct_weight_rules.proofs.DisjointWords.{disjoint_code}

-- what is known of an entry whose weight is half its distance
record HalfTheDistance (e : Entry) : Type 0 where
  weighted : Weighted e
  some : 1 ≤ weight_of e
  within : weight_of e ≤ e.n
  twice : 2 * weight_of e ≡ e.d
  count : e.n / weight_of e ≡ count_of_disjoint e

half_the_distance : (e : Entry) → IsEntry e → has_disjoint_words e ≡ true → HalfTheDistance e
half_the_distance e entry condition =
    let parts = and_parts (has_weight e) (weight_of e == e.d / 2) condition in
    let weighted = a_weight e parts.0 in
    let half = eqb-true (weight_of e) (e.d / 2) parts.1 in
    let limits = entry_limits e entry in
    let far = limits.distance_from in
    let fits : WeightFits e (Some weighted.0) = subst (WeightFits e) weighted.1 limits.weight in
    let even = fits.0 in
    record {
      weighted = weighted;
      some = omega arith;
      within = weight_within e entry weighted;
      twice = omega arith;
      count = ap (λ w. e.n / w) half;
    }

-- there is room for one word
one-le-count : (e : Entry) → HalfTheDistance e → 1 ≤ e.n / weight_of e
one-le-count e half =
    let some = half.some in
    let within = half.within in
    le-div 1 e.n (weight_of e) (omega arith) (omega arith)

pub disjoint_below-lawful : (c : Option Support) → IsLawful c disjoint_below
disjoint_below-lawful c = record {
  sound = λ e vs x stand entry condition known is.
      let half = half_the_distance e entry condition in
      let w = weight_of e in
      let count = e.n / w in
      same_number Lower e count x (ap Some half.count ∙ is)
      (lower_of_weight e count half.weighted (one-le-count e half)
      (subst (λ d. IsTrueLower (constant_weight e.n d w) count) half.twice (disjoint_code e.n w half.some)));
  monotone = λ e us vs x h is. no_worse-same Lower (Some (count_of_disjoint e)) x is;
  few = λ e stand entry. omega arith;
}

pub disjoint_above-lawful : (c : Option Support) → IsLawful c disjoint_above
disjoint_above-lawful c = record {
  sound = λ e vs x stand entry condition known is.
      let half = half_the_distance e entry condition in
      let w = weight_of e in
      let count = e.n / w in
      same_number Upper e count x (ap Some half.count ∙ is)
      (upper_of_weight e count half.weighted (one-le-count e half)
      (subst (λ d. IsTrueUpper (constant_weight e.n d w) count) half.twice
      (bound_from_weight e.n (2 * w) w count (weight_bound-disjoint e.n w half.some))));
  monotone = λ e us vs x h is. no_worse-same Upper (Some (count_of_disjoint e)) x is;
  few = λ e stand entry. omega arith;
}
