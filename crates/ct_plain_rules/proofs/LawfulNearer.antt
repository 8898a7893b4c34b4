-- A smaller distance.
use Rattle.std.proofs.Common.{◌+◌, ◌-◌, [], ◌∷◌, arith, refl}
use Rattle.std.specs.Prelude.{Option}
use Rattle.ct_words.specs.declared.claim.Side.TheVariants.{Lower, Upper}
use Rattle.ct_words.proofs.EntryLemmas.{entry_limits}
use Rattle.ct_rule_parts.specs.declared.support.Support.{Support}
use Rattle.ct_rule_parts.specs.Parts.{first}
use Rattle.ct_rule_parts.proofs.Constructions.{HasCode-nearer}
use Rattle.ct_rule_parts.proofs.Lawful.{IsLawful, LeadsBack, only_value, same_number, no_worse-other, first-no_better, defined_entry, defined_condition}
use Rattle.ct_rule_parts.proofs.PlainEntries.{no_weight, written, turns_back}
use Rattle.ct_rule_parts.proofs.PlainNumbers.{lower_number, upper_number, bounded_by}
use Rattle.ct_plain_rules.specs.Nearer.{nearer_below, nearer_above}
use Rattle.ct_plain_rules.specs.Neighbours.{nearer, farther}

pub nearer_below-lawful : (c : Option Support) → IsLawful c nearer_below
nearer_below-lawful c = record {
  sound = λ e vs x stand entry plain known is.
      let premise = only_value _ vs known in
      same_number Lower e (first vs) x is
      (lower_number e (first vs) (no_weight e plain) premise.range.0
      (HasCode-nearer e.n (e.d + 1) e.d (first vs) (omega arith) premise.truth));
  monotone = λ e us vs x h is. no_worse-other Lower (first us) (first vs) x (first-no_better Lower us vs h) is;
  few = λ e stand entry. omega arith;
}

pub nearer_below-back : LeadsBack nearer_below (λ e. nearer e ∷ [])
nearer_below-back e f defined rests =
    let plain = no_weight e (defined_condition nearer_below e defined) in
    turns_back farther nearer e f (written e.n (e.d + 1 - 1) e plain refl (omega arith)) rests

pub nearer_above-lawful : (c : Option Support) → IsLawful c nearer_above
nearer_above-lawful c = record {
  sound = λ e vs x stand entry plain known is.
      let premise = only_value _ vs known in
      same_number Upper e (first vs) x is
      (upper_number e (first vs) (no_weight e plain) premise.range.0
      (bounded_by e.n e.d e.n (e.d - 1) (first vs) (λ u code. HasCode-nearer e.n e.d (e.d - 1) u (omega arith) code) premise.truth));
  monotone = λ e us vs x h is. no_worse-other Upper (first us) (first vs) x (first-no_better Upper us vs h) is;
  few = λ e stand entry. omega arith;
}

pub nearer_above-back : LeadsBack nearer_above (λ e. farther e ∷ [])
nearer_above-back e f defined rests =
    let limits = entry_limits e (defined_entry nearer_above e defined) in
    let plain = no_weight e (defined_condition nearer_above e defined) in
    turns_back nearer farther e f (written e.n (e.d - 1 + 1) e plain refl (omega (arith, limits.distance_from))) rests
