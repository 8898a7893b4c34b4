-- Sizes that parity excludes (Best, Brouwer, MacWilliams, Odlyzko and Sloane 1978, section II).
use Rattle.std.specs.Prelude.{ℕ, ◌-◌, ◌%◌, ◌==◌, ◌&&◌, nat_le, not, Bool, is_some, if◌then◌else◌, List, pos, ◌*ℤ◌, int_lt, Option, Some, None, option_map}
use Rattle.ct_words.specs.declared.claim.Side.TheVariants.{Upper}
use Rattle.ct_duals.specs.Bound.{AcceptedValue, dual_spread}
use Rattle.ct_parity.specs.declared.sums.TheConstants.{MAX_ODD}
use Rattle.ct_parity.specs.OddSum.{odd_sum}
use Rattle.ct_rule_parts.specs.declared.support.Support.{Support}
use Rattle.ct_rule_parts.specs.Parts.{RuleParts, has_weight}
use Rattle.ct_rule_parts.specs.Support.{OddValue, odd_at}
use Rattle.ct_weight_rules.specs.Delsarte.{premises_of_dual}

-- whether a number of words is one that parity may exclude: odd, from 3 to MAX_ODD
abbrev pub is_odd_size : ℕ → Bool
is_odd_size m = nat_le 3 m && nat_le m MAX_ODD && m % 2 == 1

-- whether L > m·E: over the pairs of any m words f adds up to at least L, the sum over an odd number of words, and over those of m words of a code to at most m·E, E the spread of the dual
abbrev pub is_above_spread : AcceptedValue → ℕ → List ℕ → Bool
is_above_spread a m vs = int_lt (pos m *ℤ dual_spread a.dual a.at_zero vs) (odd_sum a.dual.entry.n m a.dual.c)

-- one word less than the number of words that parity excludes: a code of more words has one of just so many in it
abbrev pub size_below : Option OddValue → List ℕ → Option ℕ
size_below None vs = None
size_below (Some o) vs = if is_odd_size o.m && is_above_spread o.accepted o.m vs then Some (o.m - 1) else None

-- U12 of a support: A(n,d) is at most m − 1, for the m of the support, where L > m·E by its dual and the bounds of A(n,2⌈d/2⌉,i) for each i where the dual allows more than 0
abbrev pub odd_size_above : Option Support → RuleParts
odd_size_above c = record {
  side = Upper;
  condition = λ e. not (has_weight e) && is_some (odd_at c e);
  rests_on = λ e. premises_of_dual (option_map (λ o. o.accepted) (odd_at c e));
  number = λ e vs. size_below (odd_at c e) vs;
}
