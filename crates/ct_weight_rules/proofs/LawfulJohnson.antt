-- The words outside the balls.
use Rattle.std.proofs.Common.{◌≡◌, ◌+◌, ◌-◌, ◌%◌, ◌≤◌, subst, refl, arith}
use Rattle.std.specs.Prelude.{Option, IfSome}
use Rattle.ct_words.specs.declared.limits.TheConstants.{MAX_BOUND}
use Rattle.ct_words.specs.declared.claim.Side.TheVariants.{Upper}
use Rattle.ct_words.specs.Entry.{unrestricted}
use Rattle.ct_words.specs.Code.{IsTrueUpper}
use Rattle.ct_words.proofs.EntryLemmas.{entry_limits}
use Rattle.ct_johnson.proofs.JohnsonRule.{johnson_sound, johnson_within, johnson_odd-le}
use Rattle.ct_rule_parts.specs.declared.support.Support.{Support}
use Rattle.ct_rule_parts.specs.Parts.{half_up, first}
use Rattle.ct_rule_parts.proofs.Lawful.{IsLawful, LeadsBack, only_value, first-no_better, defined_condition}
use Rattle.ct_rule_parts.proofs.PlainEntries.{no_weight, written, turns_back}
use Rattle.ct_rule_parts.proofs.PlainNumbers.{upper_number}
use Rattle.ct_weight_rules.specs.Inside.RestedOn.{by_johnson}
use Rattle.ct_weight_rules.specs.Neighbours.{around, unweighted_and_nearer}
use Rattle.ct_weight_rules.specs.Johnson.{johnson_above}

pub johnson_above-lawful : (c : Option Support) → IsLawful c johnson_above
johnson_above-lawful c = record {
  sound = λ e vs x stand entry plain known is.
      let premise = only_value _ vs known in
      let limits = entry_limits (around e) premise.entry in
      let fits = limits.weight in
      let even = fits.0 in
      let odd : e.d % 2 ≡ 1 = omega arith in
      let within = johnson_within e.n e.d (first vs) odd fits.2 limits.length_to in
      let bound = johnson_sound e.n e.d (first vs) odd premise.truth in
      upper_number e x (no_weight e plain)
      (subst (λ o. IfSome o (λ v. (1 ≤ v) × (v ≤ MAX_BOUND))) is within).0
      (subst (λ o. IfSome o (IsTrueUpper (unrestricted e.n e.d))) is bound);
  monotone = λ e us vs x h is.
      johnson_odd-le e.n (half_up e.d) (first us) (first vs) x (first-no_better Upper us vs h) is;
  few = λ e stand entry. omega arith;
}

pub johnson_above-back : LeadsBack johnson_above by_johnson
johnson_above-back e f defined rests =
    turns_back around unweighted_and_nearer e f
    (written e.n (e.d + 1 - 1) e (no_weight e (defined_condition johnson_above e defined)) refl (omega arith)) rests
