-- A parity digit.
use Rattle.std.proofs.Common.{◌≡◌, ◌+◌, ◌-◌, ◌%◌, ◌==◌, [], ◌∷◌, arith, eqb-true}
use Rattle.std.specs.Prelude.{not, Option}
use Rattle.std.proofs.lemmas.Bool.{and_parts}
use Rattle.ct_words.specs.declared.claim.Side.TheVariants.{Lower, Upper}
use Rattle.ct_words.proofs.EntryLemmas.{entry_limits}
use Rattle.ct_rule_parts.specs.declared.support.Support.{Support}
use Rattle.ct_rule_parts.specs.Parts.{has_weight, first}
use Rattle.ct_rule_parts.proofs.Lawful.{IsLawful, LeadsBack, only_value, same_number, no_worse-other, first-no_better, defined_entry, defined_condition}
use Rattle.ct_rule_parts.proofs.PlainEntries.{no_weight, written, turns_back}
use Rattle.ct_rule_parts.proofs.PlainNumbers.{lower_number, upper_number, bounded_by, of_length, of_distance, HasCode-parity_odd}
use Rattle.ct_plain_rules.specs.WithParity.{parity_below, parity_above}
use Rattle.ct_plain_rules.specs.Neighbours.{shorter_and_nearer, longer_and_farther}

pub parity_below-lawful : (c : Option Support) → IsLawful c parity_below
parity_below-lawful c = record {
  sound = λ e vs x stand entry condition known is.
      let limits = entry_limits e entry in
      let parts = and_parts (not (has_weight e)) (e.d % 2 == 0) condition in
      let even = eqb-true (e.d % 2) 0 parts.1 in
      let least = limits.distance_from in
      let premise = only_value _ vs known in
      let odd : (e.d - 1) % 2 ≡ 1 = omega arith in
      let long : e.n - 1 + 1 ≡ e.n = omega (arith, limits.length_from) in
      let far : e.d - 1 + 1 ≡ e.d = omega arith in
      same_number Lower e (first vs) x is
      (lower_number e (first vs) (no_weight e parts.0) premise.range.0
      (of_length (e.n - 1 + 1) e.n e.d (first vs) long
      (of_distance (e.n - 1 + 1) (e.d - 1 + 1) e.d (first vs) far
      (HasCode-parity_odd (e.n - 1) (e.d - 1) (first vs) odd premise.truth))));
  monotone = λ e us vs x h is. no_worse-other Lower (first us) (first vs) x (first-no_better Lower us vs h) is;
  few = λ e stand entry. omega arith;
}

pub parity_below-back : LeadsBack parity_below (λ e. longer_and_farther e ∷ [])
parity_below-back e f defined rests =
    let limits = entry_limits e (defined_entry parity_below e defined) in
    let parts = and_parts (not (has_weight e)) (e.d % 2 == 0) (defined_condition parity_below e defined) in
    turns_back shorter_and_nearer longer_and_farther e f
    (written (e.n - 1 + 1) (e.d - 1 + 1) e (no_weight e parts.0) (omega (arith, limits.length_from)) (omega (arith, limits.distance_from)))
    rests

pub parity_above-lawful : (c : Option Support) → IsLawful c parity_above
parity_above-lawful c = record {
  sound = λ e vs x stand entry condition known is.
      let parts = and_parts (not (has_weight e)) (e.d % 2 == 1) condition in
      let odd = eqb-true (e.d % 2) 1 parts.1 in
      let premise = only_value _ vs known in
      same_number Upper e (first vs) x is
      (upper_number e (first vs) (no_weight e parts.0) premise.range.0
      (bounded_by e.n e.d (e.n + 1) (e.d + 1) (first vs) (λ u code. HasCode-parity_odd e.n e.d u odd code)
      premise.truth));
  monotone = λ e us vs x h is. no_worse-other Upper (first us) (first vs) x (first-no_better Upper us vs h) is;
  few = λ e stand entry. omega arith;
}

pub parity_above-back : LeadsBack parity_above (λ e. shorter_and_nearer e ∷ [])
parity_above-back e f defined rests =
    let parts = and_parts (not (has_weight e)) (e.d % 2 == 1) (defined_condition parity_above e defined) in
    turns_back longer_and_farther shorter_and_nearer e f
    (written (e.n + 1 - 1) (e.d + 1 - 1) e (no_weight e parts.0) (omega arith) (omega arith)) rests
