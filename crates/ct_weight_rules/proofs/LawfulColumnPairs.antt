-- Pairs of words with a one at one place.
use Rattle.std.proofs.Common.{◌≡◌, ℕ, ◌-◌, option_map, subst, refl, arith}
use Rattle.std.specs.Prelude.{is_some, Option, Some, None}
use Rattle.std.proofs.lemmas.Bool.{and_parts}
use Rattle.std.proofs.lemmas.Option.{same_Some, none-some}
use Rattle.ct_words.specs.declared.claim.Side.TheVariants.{Upper}
use Rattle.ct_words.proofs.EntryLemmas.{WeightFits, entry_limits}
use Rattle.ct_johnson.specs.Bounds.{column_count_value}
use Rattle.ct_johnson.proofs.PairCounts.{columns_sound}
use Rattle.ct_rule_parts.specs.declared.support.Support.{Support}
use Rattle.ct_rule_parts.specs.Parts.{has_weight, weight_of}
use Rattle.ct_rule_parts.proofs.Lawful.{IsLawful, IsTrueNumber, no_worse-same}
use Rattle.ct_rule_parts.proofs.PlainEntries.{a_weight}
use Rattle.ct_rule_parts.proofs.WeightEntries.{upper_of_weight}
use Rattle.ct_weight_rules.specs.ColumnPairs.{below_too_many, column_pairs}

-- what a number is one below
one_below : (o : Option ℕ) (x : ℕ) → option_map (λ (m : ℕ). m - 1) o ≡ Some x → (m : ℕ) × (o ≡ Some m) × (m - 1 ≡ x)
one_below None x is = absurd (none-some x is)
one_below (Some m) x is = (m, refl, same_Some (m - 1) x is)

pub column_pairs-lawful : (c : Option Support) → IsLawful c column_pairs
column_pairs-lawful c = record {
  sound = λ e vs x stand entry condition known is.
      let parts = and_parts (has_weight e) (is_some (below_too_many e)) condition in
      let weighted = a_weight e parts.0 in
      let limits = entry_limits e entry in
      let fits = subst (WeightFits e) weighted.1 limits.weight in
      let least = one_below (column_count_value e.n e.d (weight_of e)) x is in
      let bound = columns_sound e.n e.d (weight_of e) least.0 limits.length_from fits.0 least.1 in
      subst (IsTrueNumber Upper e) least.2
      (upper_of_weight e (least.0 - 1) weighted (omega (arith, bound.0)) bound.1);
  monotone = λ e us vs x h is. no_worse-same Upper _ x is;
  few = λ e stand entry. omega arith;
}
