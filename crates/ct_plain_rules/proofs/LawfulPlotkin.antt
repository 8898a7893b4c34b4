-- The average distance of the words.
use Rattle.std.proofs.Common.{◌≡◌, ℕ, ◌+◌, ◌-◌, ◌*◌, ◌%◌, ◌≤◌, refl, sym, subst, ◌∙◌, arith}
use Rattle.std.specs.Prelude.{Bool, true, false, ◌==◌, nat_le, nat_lt, if◌then◌else◌, not, is_some, IfSome, Option, Some}
use Rattle.std.proofs.lemmas.Bool.{and_parts}
use Rattle.std.proofs.lemmas.Bool.Decides.{nat_tests}
use Rattle.ct_words.specs.declared.limits.TheConstants.{MAX_N, MAX_BOUND}
use Rattle.ct_words.specs.declared.claim.Side.TheVariants.{Upper}
use Rattle.ct_words.specs.Entry.{unrestricted}
use Rattle.ct_words.specs.Code.{IsTrueUpper}
use Rattle.ct_words.proofs.EntryLemmas.{entry_limits}
use Rattle.ct_elementary.specs.Bounds.{plotkin_even, plotkin_odd, plotkin_value}
use Rattle.ct_elementary.proofs.PlotkinRule.{even_sound, odd_sound, even_within}
use Rattle.ct_rule_parts.specs.declared.support.Support.{Support}
use Rattle.ct_rule_parts.specs.Parts.{has_weight}
use Rattle.ct_rule_parts.proofs.Lawful.{IsLawful, no_worse-same}
use Rattle.ct_rule_parts.proofs.PlainEntries.{no_weight}
use Rattle.ct_rule_parts.proofs.PlainNumbers.{upper_number}
use Rattle.ct_plain_rules.specs.Plotkin.{plotkin}

-- Plotkin's bound for an odd distance is that for words with a parity digit
plotkin_odd-is : (n d : ℕ) → plotkin_odd n d ≡ plotkin_even (n + 1) (d + 1)
plotkin_odd-is n d =
    let long : nat_le (d + 1) (n + 1) ≡ nat_le d n = grind (arith, nat_tests) in
    let short : nat_lt (n + 1) (2 * (d + 1)) ≡ nat_lt n (2 * d + 1) = grind (arith, nat_tests) in
    let gap : 2 * (d + 1) - (n + 1) ≡ 2 * d + 1 - n = omega arith in
    let double : (n + 1 == 2 * (d + 1)) ≡ (n == 2 * d + 1) = grind (arith, nat_tests) in
    let four : 4 * (d + 1) ≡ 4 * d + 4 = omega arith in
    rw (long, short, gap, double, four) refl

-- a bound of the codes of a length and a distance, at least 1
abbrev IsBound : ℕ → ℕ → ℕ → Type 0
IsBound n d v = (1 ≤ v) × IsTrueUpper (unrestricted n d) v

-- Plotkin's bound
plotkin_known : (n d x : ℕ) → 1 ≤ d → d ≤ MAX_N → plotkin_value n d ≡ Some x → IsBound n d x
plotkin_known n d x some small is = go (d % 2 == 0) refl is
  where
    go : (b : Bool) → (d % 2 == 0) ≡ b → (if b then plotkin_even n d else plotkin_odd n d) ≡ Some x → IsBound n d x
    go true even is = (
      (subst (λ o. IfSome o (λ v. (1 ≤ v) × (v ≤ MAX_BOUND))) is (even_within n d some (omega arith))).0,
      subst (λ o. IfSome o (IsTrueUpper (unrestricted n d))) is (even_sound n d some),
    )
    go false odd is =
        let is_odd : d % 2 ≡ 1 = grind (arith, nat_tests) in
        let same = sym (plotkin_odd-is n d) ∙ is in (
          (subst (λ o. IfSome o (λ v. (1 ≤ v) × (v ≤ MAX_BOUND))) same
              (even_within (n + 1) (d + 1) (omega arith) (omega arith))).0,
          subst (λ o. IfSome o (IsTrueUpper (unrestricted n d))) same (odd_sound n d is_odd),
        )

pub plotkin-lawful : (c : Option Support) → IsLawful c plotkin
plotkin-lawful c = record {
  sound = λ e vs x stand entry condition known is.
      let limits = entry_limits e entry in
      let parts = and_parts (not (has_weight e)) (is_some (plotkin_value e.n e.d)) condition in
      let bound = plotkin_known e.n e.d x (omega (arith, limits.distance_from)) limits.distance_to is in
      upper_number e x (no_weight e parts.0) bound.0 bound.1;
  monotone = λ e us vs x h is. no_worse-same Upper _ x is;
  few = λ e stand entry. omega arith;
}
