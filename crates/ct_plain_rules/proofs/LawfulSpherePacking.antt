-- Balls about the words.
use Rattle.std.proofs.Common.{◌-◌, ◌/◌, ◌^◌, arith}
use Rattle.std.specs.Prelude.{Option, Some}
use Rattle.std.proofs.lemmas.Nat.{le-div}
use Rattle.ct_words.specs.Counting.Binomials.{volume}
use Rattle.ct_words.proofs.Counting.Binomials.{one-le-volume, volume-le}
use Rattle.ct_words.proofs.Counting.Spheres.{spread_hamming}
use Rattle.ct_words.specs.declared.claim.Side.TheVariants.{Upper}
use Rattle.ct_words.proofs.EntryLemmas.{entry_limits}
use Rattle.ct_words.proofs.DigitCodes.{bound_from_spread}
use Rattle.ct_elementary.specs.Bounds.{sphere_packing_value}
use Rattle.ct_rule_parts.specs.declared.support.Support.{Support}
use Rattle.ct_rule_parts.proofs.Lawful.{IsLawful, same_number, no_worse-same}
use Rattle.ct_rule_parts.proofs.PlainEntries.{no_weight}
use Rattle.ct_rule_parts.proofs.PlainNumbers.{upper_number}
use Rattle.ct_plain_rules.specs.SpherePacking.{sphere_packing}

pub sphere_packing-lawful : (c : Option Support) → IsLawful c sphere_packing
sphere_packing-lawful c = record {
  sound = λ e vs x stand entry plain known is.
      let limits = entry_limits e entry in
      let least = limits.distance_from in
      let radius = (e.d - 1) / 2 in
      let ball = volume-le e.n radius in
      same_number Upper e (sphere_packing_value e.n e.d) x is
      (upper_number e (sphere_packing_value e.n e.d) (no_weight e plain)
      (le-div 1 (2 ^ e.n) (volume e.n radius) (one-le-volume e.n radius) (omega arith))
      (bound_from_spread e.n e.d (sphere_packing_value e.n e.d) (spread_hamming e.n e.d (omega arith))));
  monotone = λ e us vs x h is. no_worse-same Upper (Some (sphere_packing_value e.n e.d)) x is;
  few = λ e stand entry. omega arith;
}
