-- Words with a zero at a place.
use Rattle.std.proofs.Common.{ℕ, ◌+◌, ◌-◌, ◌*◌, ◌/◌, ◌≤◌, [], ◌∷◌, refl, arith, mul-pos}
use Rattle.std.specs.Prelude.{Option}
use Rattle.std.specs.Int.{div_ceil}
use Rattle.std.proofs.Math.Nat.{mul-le-mul_left}
use Rattle.std.proofs.lemmas.Nat.{le-div}
use Rattle.ct_words.specs.declared.entry.Entry.{Entry}
use Rattle.ct_words.specs.declared.claim.Side.TheVariants.{Lower, Upper}
use Rattle.ct_words.specs.Code.{IsTrueUpper}
use Rattle.ct_words.specs.Entry.{IsEntry}
use Rattle.ct_words.proofs.EntryLemmas.{entry_limits}
use Rattle.ct_words.proofs.DigitCodes.{bound_from_weight, weight_bound_from_codes}
use Rattle.ct_johnson.proofs.DigitPlaces.{lower-with_zero}
use Rattle.ct_johnson.proofs.OnePlace.{weight_bound-zero}
use Rattle.ct_johnson.proofs.Quotients.{div-le-div}
use Rattle.ct_johnson.proofs.RoundedUp.{div_ceil-le-div_ceil, one-le-div_ceil}
use Rattle.ct_rule_parts.specs.declared.support.Support.{Support}
use Rattle.ct_rule_parts.specs.Parts.{weight_of, first}
use Rattle.ct_rule_parts.proofs.Lawful.{IsLawful, LeadsBack, IsTrueNumber, only_value, same_number, no_worse-other, first-no_better, defined_entry, defined_condition}
use Rattle.ct_rule_parts.proofs.PlainEntries.{Weighted, a_weight, turns_back}
use Rattle.ct_rule_parts.proofs.WeightEntries.{weight_within, lower_of_weight, upper_of_weight}
use Rattle.ct_weight_rules.specs.JohnsonZero.{johnson_zero_below, johnson_zero_above}
use Rattle.ct_weight_rules.specs.Neighbours.{zero_less, zero_more}
use Rattle.ct_weight_rules.proofs.WeightNeighbours.{zero_more-zero_less, zero_less-zero_more}

pub johnson_zero_below-lawful : (c : Option Support) → IsLawful c johnson_zero_below
johnson_zero_below-lawful c = record {
  sound = λ e vs x stand entry condition known is.
      let weighted = a_weight e condition in
      let premise = only_value _ vs known in
      let within = weight_within e entry weighted in
      let zeros = e.n + 1 - weight_of e in
      let v = first vs in
      same_number Lower e (div_ceil (zeros * v) (e.n + 1)) x is
      (lower_of_weight e (div_ceil (zeros * v) (e.n + 1)) weighted
      (one-le-div_ceil (zeros * v) (e.n + 1) (omega arith) (mul-pos (omega arith) premise.range.0))
      (lower-with_zero e.n e.d (weight_of e) v premise.truth));
  monotone = λ e us vs x h is.
      let zeros = e.n + 1 - weight_of e in
      let more = mul-le-mul_left zeros (first-no_better Lower us vs h) in
      no_worse-other Lower _ _ x (div_ceil-le-div_ceil (zeros * first us) (zeros * first vs) (e.n + 1) (omega arith) more) is;
  few = λ e stand entry. omega arith;
}

pub johnson_zero_below-back : LeadsBack johnson_zero_below (λ e. zero_less e ∷ [])
johnson_zero_below-back e f defined rests =
    let weighted = a_weight e (defined_condition johnson_zero_below e defined) in
    turns_back zero_more zero_less e f (zero_less-zero_more e weighted) rests

-- ⌊n·u/(n - w)⌋
bound_of_zeros : (e : Entry) (u : ℕ) → IsEntry e → Weighted e → IsEntry (zero_less e) → 1 ≤ u → IsTrueUpper (zero_less e) u
    → IsTrueNumber Upper e (e.n * u / (e.n - weight_of e))
bound_of_zeros e u entry weighted there positive bound =
    let n = e.n in
    let w = weight_of e in
    let limits = entry_limits e entry in
    let long = limits.length_from in
    let far : 1 ≤ e.d = omega (arith, limits.distance_from) in
    let within : w ≤ n - 1 = weight_within (zero_less e) there (w, refl) in
    let all = mul-le-mul_left n positive in
    upper_of_weight e (n * u / (n - w)) weighted (le-div 1 (n * u) (n - w) (omega arith) (omega arith))
    (bound_from_weight n e.d w (n * u / (n - w))
    (weight_bound-zero n e.d w u (omega arith) (weight_bound_from_codes (n - 1) e.d w u far bound)))

pub johnson_zero_above-lawful : (c : Option Support) → IsLawful c johnson_zero_above
johnson_zero_above-lawful c = record {
  sound = λ e vs x stand entry condition known is.
      let premise = only_value _ vs known in
      same_number Upper e (e.n * first vs / (e.n - weight_of e)) x is
      (bound_of_zeros e (first vs) entry (a_weight e condition) premise.entry premise.range.0 premise.truth);
  monotone = λ e us vs x h is.
      let fewer = mul-le-mul_left e.n (first-no_better Upper us vs h) in
      no_worse-other Upper _ _ x (div-le-div (e.n * first vs) (e.n * first us) (e.n - weight_of e) fewer) is;
  few = λ e stand entry. omega arith;
}

pub johnson_zero_above-back : LeadsBack johnson_zero_above (λ e. zero_more e ∷ [])
johnson_zero_above-back e f defined rests =
    let weighted = a_weight e (defined_condition johnson_zero_above e defined) in
    turns_back zero_less zero_more e f
    (zero_more-zero_less e (defined_entry johnson_zero_above e defined) weighted) rests
