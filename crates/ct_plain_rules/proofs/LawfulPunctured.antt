-- A place left out.
use Rattle.std.proofs.Common.{◌≡◌, ◌+◌, ◌-◌, [], ◌∷◌, arith}
use Rattle.std.specs.Prelude.{Option}
use Rattle.ct_words.specs.declared.claim.Side.TheVariants.{Lower, Upper}
use Rattle.ct_words.proofs.EntryLemmas.{entry_limits}
use Rattle.ct_rule_parts.specs.declared.support.Support.{Support}
use Rattle.ct_rule_parts.specs.Parts.{first}
use Rattle.ct_rule_parts.proofs.Constructions.{HasCode-punctured}
use Rattle.ct_rule_parts.proofs.Lawful.{IsLawful, LeadsBack, only_value, same_number, no_worse-other, first-no_better, defined_entry, defined_condition}
use Rattle.ct_rule_parts.proofs.PlainEntries.{no_weight, written, turns_back}
use Rattle.ct_rule_parts.proofs.PlainNumbers.{lower_number, upper_number, bounded_by, of_length, of_distance}
use Rattle.ct_plain_rules.specs.Punctured.{punctured_below, punctured_above}
use Rattle.ct_plain_rules.specs.Neighbours.{shorter_and_nearer, longer_and_farther}

pub punctured_below-lawful : (c : Option Support) → IsLawful c punctured_below
punctured_below-lawful c = record {
  sound = λ e vs x stand entry plain known is.
      let limits = entry_limits e entry in
      let premise = only_value _ vs known in
      same_number Lower e (first vs) x is
      (lower_number e (first vs) (no_weight e plain) premise.range.0
      (HasCode-punctured e.n e.d (first vs) (omega (arith, limits.distance_from)) premise.truth));
  monotone = λ e us vs x h is. no_worse-other Lower (first us) (first vs) x (first-no_better Lower us vs h) is;
  few = λ e stand entry. omega arith;
}

pub punctured_below-back : LeadsBack punctured_below (λ e. shorter_and_nearer e ∷ [])
punctured_below-back e f defined rests =
    let plain = no_weight e (defined_condition punctured_below e defined) in
    turns_back longer_and_farther shorter_and_nearer e f
    (written (e.n + 1 - 1) (e.d + 1 - 1) e plain (omega arith) (omega arith)) rests

pub punctured_above-lawful : (c : Option Support) → IsLawful c punctured_above
punctured_above-lawful c = record {
  sound = λ e vs x stand entry plain known is.
      let limits = entry_limits e entry in
      let premise = only_value _ vs known in
      let long : e.n ≡ e.n - 1 + 1 = omega (arith, limits.length_from) in
      let far : e.d ≡ e.d - 1 + 1 = omega (arith, limits.distance_from) in
      same_number Upper e (first vs) x is
      (upper_number e (first vs) (no_weight e plain) premise.range.0
      (bounded_by e.n e.d (e.n - 1) (e.d - 1) (first vs)
      (λ u code.
      HasCode-punctured (e.n - 1) (e.d - 1) u (omega (arith, limits.distance_from))
      (of_length e.n (e.n - 1 + 1) (e.d - 1 + 1) u long (of_distance e.n e.d (e.d - 1 + 1) u far code)))
      premise.truth));
  monotone = λ e us vs x h is. no_worse-other Upper (first us) (first vs) x (first-no_better Upper us vs h) is;
  few = λ e stand entry. omega arith;
}

pub punctured_above-back : LeadsBack punctured_above (λ e. longer_and_farther e ∷ [])
punctured_above-back e f defined rests =
    let limits = entry_limits e (defined_entry punctured_above e defined) in
    let plain = no_weight e (defined_condition punctured_above e defined) in
    turns_back shorter_and_nearer longer_and_farther e f
    (written (e.n - 1 + 1) (e.d - 1 + 1) e plain (omega (arith, limits.length_from)) (omega (arith, limits.distance_from))) rests
