-- Words with a one at a place.
use Rattle.std.proofs.Common.{◌≡◌, ℕ, ◌+◌, ◌-◌, ◌*◌, ◌/◌, ◌≤◌, [], ◌∷◌, nat_le, arith, leb-true, mul-pos}
use Rattle.std.specs.Prelude.{true, Option}
use Rattle.std.specs.Int.{div_ceil}
use Rattle.std.proofs.Math.Nat.{mul-le-mul_left}
use Rattle.std.proofs.lemmas.Bool.{and_parts}
use Rattle.std.proofs.lemmas.Nat.{le-div}
use Rattle.ct_words.specs.declared.entry.Entry.{Entry}
use Rattle.ct_words.specs.declared.claim.Side.TheVariants.{Lower, Upper}
use Rattle.ct_words.specs.Code.{IsTrueUpper}
use Rattle.ct_words.specs.Entry.{IsEntry, constant_weight}
use Rattle.ct_words.proofs.EntryLemmas.{entry_limits}
use Rattle.ct_words.proofs.DigitCodes.{bound_from_weight, weight_bound_from_codes}
use Rattle.ct_johnson.proofs.DigitPlaces.{lower-with_one}
use Rattle.ct_johnson.proofs.OnePlace.{weight_bound-one}
use Rattle.ct_johnson.proofs.Quotients.{div-le-div}
use Rattle.ct_johnson.proofs.RoundedUp.{div_ceil-le-div_ceil, one-le-div_ceil}
use Rattle.ct_rule_parts.specs.declared.support.Support.{Support}
use Rattle.ct_rule_parts.specs.Parts.{has_weight, weight_of, first}
use Rattle.ct_rule_parts.proofs.Lawful.{IsLawful, LeadsBack, IsTrueNumber, only_value, same_number, no_worse-other, first-no_better, defined_entry, defined_condition}
use Rattle.ct_rule_parts.proofs.PlainEntries.{Weighted, a_weight, turns_back}
use Rattle.ct_rule_parts.proofs.WeightEntries.{weight_within, lower_of_weight, upper_of_weight}
use Rattle.ct_weight_rules.specs.JohnsonOne.{johnson_one_below, johnson_one_above}
use Rattle.ct_weight_rules.specs.Neighbours.{one_less, one_more}
use Rattle.ct_weight_rules.proofs.WeightNeighbours.{one_more-one_less, one_less-one_more}

pub johnson_one_below-lawful : (c : Option Support) → IsLawful c johnson_one_below
johnson_one_below-lawful c = record {
  sound = λ e vs x stand entry condition known is.
      let weighted = a_weight e condition in
      let premise = only_value _ vs known in
      let w = weight_of e in
      let v = first vs in
      same_number Lower e (div_ceil ((w + 1) * v) (e.n + 1)) x is
      (lower_of_weight e (div_ceil ((w + 1) * v) (e.n + 1)) weighted
      (one-le-div_ceil ((w + 1) * v) (e.n + 1) (omega arith) (mul-pos (omega arith) premise.range.0))
      (lower-with_one e.n e.d w v premise.truth));
  monotone = λ e us vs x h is.
      let more = mul-le-mul_left (weight_of e + 1) (first-no_better Lower us vs h) in
      no_worse-other Lower _ _ x
      (div_ceil-le-div_ceil ((weight_of e + 1) * first us) ((weight_of e + 1) * first vs) (e.n + 1) (omega arith) more) is;
  few = λ e stand entry. omega arith;
}

pub johnson_one_below-back : LeadsBack johnson_one_below (λ e. one_less e ∷ [])
johnson_one_below-back e f defined rests =
    let weighted = a_weight e (defined_condition johnson_one_below e defined) in
    turns_back one_more one_less e f (one_less-one_more e weighted) rests

-- the condition of V4, as facts
record HasOnes (e : Entry) : Type 0 where
  weighted : Weighted e
  some : 1 ≤ weight_of e

has_ones : (e : Entry) → johnson_one_above.condition e ≡ true → HasOnes e
has_ones e condition =
    let parts = and_parts (has_weight e) (nat_le 1 (weight_of e)) condition in
    record { weighted = a_weight e parts.0; some = leb-true 1 (weight_of e) parts.1 }

-- ⌊n·u/w⌋
bound_of_ones : (e : Entry) (u : ℕ) → IsEntry e → HasOnes e → 1 ≤ u
    → IsTrueUpper (constant_weight (e.n - 1) e.d (weight_of e - 1)) u → IsTrueNumber Upper e (e.n * u / weight_of e)
bound_of_ones e u entry ones positive bound =
    let n = e.n in
    let w = weight_of e in
    let limits = entry_limits e entry in
    let far : 1 ≤ e.d = omega (arith, limits.distance_from) in
    let within = weight_within e entry ones.weighted in
    let some = ones.some in
    let all = mul-le-mul_left n positive in
    upper_of_weight e (n * u / w) ones.weighted (le-div 1 (n * u) w some (omega arith))
    (bound_from_weight n e.d w (n * u / w)
    (weight_bound-one n e.d w u limits.length_from some (weight_bound_from_codes (n - 1) e.d (w - 1) u far bound)))

pub johnson_one_above-lawful : (c : Option Support) → IsLawful c johnson_one_above
johnson_one_above-lawful c = record {
  sound = λ e vs x stand entry condition known is.
      let premise = only_value _ vs known in
      same_number Upper e (e.n * first vs / weight_of e) x is
      (bound_of_ones e (first vs) entry (has_ones e condition) premise.range.0 premise.truth);
  monotone = λ e us vs x h is.
      let fewer = mul-le-mul_left e.n (first-no_better Upper us vs h) in
      no_worse-other Upper _ _ x (div-le-div (e.n * first vs) (e.n * first us) (weight_of e) fewer) is;
  few = λ e stand entry. omega arith;
}

pub johnson_one_above-back : LeadsBack johnson_one_above (λ e. one_more e ∷ [])
johnson_one_above-back e f defined rests =
    let ones = has_ones e (defined_condition johnson_one_above e defined) in
    turns_back one_less one_more e f
    (one_more-one_less e (defined_entry johnson_one_above e defined) ones.weighted ones.some) rests
