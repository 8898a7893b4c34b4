-- The average over translates.
use Rattle.std.proofs.Common.{ℕ, refl, arith}
use Rattle.std.specs.Prelude.{Option}
use Rattle.ct_words.specs.declared.claim.Side.TheVariants.{Upper}
use Rattle.ct_words.proofs.EntryLemmas.{entry_limits}
use Rattle.ct_johnson.specs.Bounds.{average}
use Rattle.ct_johnson.proofs.Averages.{average_sound, one-le-average, average-le}
use Rattle.ct_rule_parts.specs.declared.support.Support.{Support}
use Rattle.ct_rule_parts.specs.Parts.{first}
use Rattle.ct_rule_parts.proofs.Lawful.{IsLawful, LeadsBack, only_value, same_number, no_worse-other, first-no_better, defined_condition}
use Rattle.ct_rule_parts.proofs.PlainEntries.{no_weight, written, turns_back}
use Rattle.ct_rule_parts.proofs.PlainNumbers.{upper_number}
use Rattle.ct_weight_rules.specs.Inside.RestedOn.{by_elias_bassalygo}
use Rattle.ct_weight_rules.specs.Neighbours.{of_weight, unweighted}
use Rattle.ct_weight_rules.specs.EliasBassalygo.{elias_bassalygo}

pub elias_bassalygo-lawful : (w : ℕ) (c : Option Support) → IsLawful c (elias_bassalygo w)
elias_bassalygo-lawful w c = record {
  sound = λ e vs x stand entry plain known is.
      let premise = only_value _ vs known in
      let limits = entry_limits (of_weight e w) premise.entry in
      let fits = limits.weight in
      same_number Upper e (average e.n w (first vs)) x is
      (upper_number e (average e.n w (first vs)) (no_weight e plain)
      (one-le-average e.n w (first vs) limits.length_from fits.2 premise.range.0)
      (average_sound e.n e.d w (first vs) limits.length_from (omega (arith, limits.distance_from)) fits.0 fits.2 premise.truth));
  monotone = λ e us vs x h is.
      no_worse-other Upper (average e.n w (first us)) (average e.n w (first vs)) x
      (average-le e.n w (first us) (first vs) (first-no_better Upper us vs h)) is;
  few = λ e stand entry. omega arith;
}

pub elias_bassalygo-back : (w : ℕ) → LeadsBack (elias_bassalygo w) by_elias_bassalygo
elias_bassalygo-back w e f defined rests =
    turns_back (λ g. of_weight g w) unweighted e f
    (written e.n e.d e (no_weight e (defined_condition (elias_bassalygo w) e defined)) refl refl) rests
