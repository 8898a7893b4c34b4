-- Delsarte's bound of a dual that is handed in (Delsarte 1973; Best, Brouwer, MacWilliams, Odlyzko and Sloane 1978).
use Rattle.std.specs.Prelude.{◌&&◌, List, [], not, is_some, Option, Some, None, option_map}
use Rattle.ct_words.specs.declared.claim.Side.TheVariants.{Upper}
use Rattle.ct_words.specs.declared.entry.Entry.{Entry}
use Rattle.ct_duals.specs.Bound.{AcceptedValue, dual_premises, dual_bound}
use Rattle.ct_rule_parts.specs.declared.support.Support.{Support}
use Rattle.ct_rule_parts.specs.Parts.{RuleParts, has_weight}
use Rattle.ct_rule_parts.specs.Support.{dual_at}

-- the entries whose bounds a dual rests on, none where there is no dual
abbrev pub premises_of_dual : Option AcceptedValue → List Entry
premises_of_dual None = []
premises_of_dual (Some a) = dual_premises a.dual

-- U11 of a support: A(n,d) is at most the bound of its dual, from those of A(n,2⌈d/2⌉,i) for each i where the dual allows more than 0
abbrev pub dual_above : Option Support → RuleParts
dual_above c = record {
  side = Upper;
  condition = λ e. not (has_weight e) && is_some (dual_at c e);
  rests_on = λ e. premises_of_dual (dual_at c e);
  number = λ e vs. option_map (λ a. dual_bound a.dual a.at_zero vs) (dual_at c e);
}

-- V9 of a support: A(n,d,w) is at most the bound of its dual, which rests on nothing
abbrev pub dual_above_of_weight : Option Support → RuleParts
dual_above_of_weight c = record {
  side = Upper;
  condition = λ e. has_weight e && is_some (dual_at c e);
  rests_on = λ e. [];
  number = λ e vs. option_map (λ a. dual_bound a.dual a.at_zero vs) (dual_at c e);
}
