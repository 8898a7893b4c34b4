-- A digit more.
use Rattle.std.proofs.Common.{◌≡◌, ◌+◌, ◌-◌, [], ◌∷◌, arith, refl}
use Rattle.std.specs.Prelude.{Option}
use Rattle.ct_words.specs.declared.claim.Side.TheVariants.{Lower, Upper}
use Rattle.ct_words.proofs.EntryLemmas.{entry_limits}
use Rattle.ct_rule_parts.specs.declared.support.Support.{Support}
use Rattle.ct_rule_parts.specs.Parts.{first}
use Rattle.ct_rule_parts.proofs.Constructions.{HasCode-lengthened}
use Rattle.ct_rule_parts.proofs.Lawful.{IsLawful, LeadsBack, only_value, same_number, no_worse-other, first-no_better, defined_entry, defined_condition}
use Rattle.ct_rule_parts.proofs.PlainEntries.{no_weight, written, turns_back}
use Rattle.ct_rule_parts.proofs.PlainNumbers.{lower_number, upper_number, bounded_by, of_length}
use Rattle.ct_plain_rules.specs.Lengthened.{lengthened_below, lengthened_above}
use Rattle.ct_plain_rules.specs.Neighbours.{shorter, longer}

pub lengthened_below-lawful : (c : Option Support) → IsLawful c lengthened_below
lengthened_below-lawful c = record {
  sound = λ e vs x stand entry plain known is.
      let limits = entry_limits e entry in
      let premise = only_value _ vs known in
      let long : e.n - 1 + 1 ≡ e.n = omega (arith, limits.length_from) in
      same_number Lower e (first vs) x is
      (lower_number e (first vs) (no_weight e plain) premise.range.0
      (of_length (e.n - 1 + 1) e.n e.d (first vs) long (HasCode-lengthened (e.n - 1) e.d (first vs) premise.truth)));
  monotone = λ e us vs x h is. no_worse-other Lower (first us) (first vs) x (first-no_better Lower us vs h) is;
  few = λ e stand entry. omega arith;
}

pub lengthened_below-back : LeadsBack lengthened_below (λ e. longer e ∷ [])
lengthened_below-back e f defined rests =
    let limits = entry_limits e (defined_entry lengthened_below e defined) in
    let plain = no_weight e (defined_condition lengthened_below e defined) in
    turns_back shorter longer e f (written (e.n - 1 + 1) e.d e plain (omega (arith, limits.length_from)) refl) rests

pub lengthened_above-lawful : (c : Option Support) → IsLawful c lengthened_above
lengthened_above-lawful c = record {
  sound = λ e vs x stand entry plain known is.
      let premise = only_value _ vs known in
      same_number Upper e (first vs) x is
      (upper_number e (first vs) (no_weight e plain) premise.range.0
      (bounded_by e.n e.d (e.n + 1) e.d (first vs) (λ u code. HasCode-lengthened e.n e.d u code) premise.truth));
  monotone = λ e us vs x h is. no_worse-other Upper (first us) (first vs) x (first-no_better Upper us vs h) is;
  few = λ e stand entry. omega arith;
}

pub lengthened_above-back : LeadsBack lengthened_above (λ e. shorter e ∷ [])
lengthened_above-back e f defined rests =
    let plain = no_weight e (defined_condition lengthened_above e defined) in
    turns_back longer shorter e f (written (e.n + 1 - 1) e.d e plain (omega arith) refl) rests
