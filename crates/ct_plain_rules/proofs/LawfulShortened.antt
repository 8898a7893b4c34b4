-- Halves.
use Rattle.std.proofs.Common.{◌≡◌, ◌+◌, ◌-◌, ◌*◌, [], ◌∷◌, length, arith, refl}
use Rattle.std.specs.Prelude.{Option}
use Rattle.ct_words.specs.declared.claim.Side.TheVariants.{Lower, Upper}
use Rattle.ct_words.proofs.EntryLemmas.{entry_limits}
use Rattle.ct_rule_parts.specs.declared.support.Support.{Support}
use Rattle.ct_rule_parts.specs.Parts.{half_up, first}
use Rattle.ct_rule_parts.proofs.Constructions.{HasCode-shortened}
use Rattle.ct_rule_parts.proofs.Lawful.{IsLawful, LeadsBack, only_value, same_number, no_worse-other, first-no_better, defined_entry, defined_condition}
use Rattle.ct_rule_parts.proofs.PlainEntries.{no_weight, written, turns_back}
use Rattle.ct_rule_parts.proofs.PlainNumbers.{lower_number, upper_number, of_length}
use Rattle.ct_plain_rules.specs.Shortened.{shortened_below, shortened_above}
use Rattle.ct_plain_rules.specs.Neighbours.{shorter, longer}

pub shortened_below-lawful : (c : Option Support) → IsLawful c shortened_below
shortened_below-lawful c = record {
  sound = λ e vs x stand entry plain known is.
      let premise = only_value _ vs known in
      let some = premise.range.0 in
      same_number Lower e (half_up (first vs)) x is
      (lower_number e (half_up (first vs)) (no_weight e plain) (omega arith)
      (HasCode-shortened e.n e.d (first vs) premise.truth));
  monotone = λ e us vs x h is.
      let worse = first-no_better Lower us vs h in
      no_worse-other Lower (half_up (first us)) (half_up (first vs)) x (omega arith) is;
  few = λ e stand entry. omega arith;
}

pub shortened_below-back : LeadsBack shortened_below (λ e. shorter e ∷ [])
shortened_below-back e f defined rests =
    let plain = no_weight e (defined_condition shortened_below e defined) in
    turns_back longer shorter e f (written (e.n + 1 - 1) e.d e plain (omega arith) refl) rests

pub shortened_above-lawful : (c : Option Support) → IsLawful c shortened_above
shortened_above-lawful c = record {
  sound = λ e vs x stand entry plain known is.
      let limits = entry_limits e entry in
      let premise = only_value _ vs known in
      let some = premise.range.0 in
      let long : e.n ≡ e.n - 1 + 1 = omega (arith, limits.length_from) in
      same_number Upper e (2 * first vs) x is
      (upper_number e (2 * first vs) (no_weight e plain) (omega arith)
      (λ words code.
      let all = of_length e.n (e.n - 1 + 1) e.d (length words) long (words, code, refl) in
      let half = HasCode-shortened (e.n - 1) e.d (length words) all in
      let most = premise.truth half.0 half.1 in
      let size = half.2 in
      omega arith));
  monotone = λ e us vs x h is.
      let worse = first-no_better Upper us vs h in
      no_worse-other Upper (2 * first us) (2 * first vs) x (omega arith) is;
  few = λ e stand entry. omega arith;
}

pub shortened_above-back : LeadsBack shortened_above (λ e. longer e ∷ [])
shortened_above-back e f defined rests =
    let limits = entry_limits e (defined_entry shortened_above e defined) in
    let plain = no_weight e (defined_condition shortened_above e defined) in
    turns_back shorter longer e f (written (e.n - 1 + 1) e.d e plain (omega (arith, limits.length_from)) refl) rests
