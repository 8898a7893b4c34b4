-- The local bound of a dual that is handed in: a code seen from one of its words (Johnson 1972; Agrell, Vardy and Zeger 2000).
use Rattle.std.specs.Prelude.{◌&&◌, is_some, Option, option_map}
use Rattle.ct_words.specs.declared.claim.Side.TheVariants.{Upper}
use Rattle.ct_rule_parts.specs.declared.support.Support.{Support}
use Rattle.ct_rule_parts.specs.Parts.{RuleParts, has_weight}
use Rattle.ct_rule_parts.specs.Support.{local_at}
use Rattle.ct_rule_parts.specs.Local.{local_value}
use Rattle.ct_weight_rules.specs.Delsarte.{premises_of_dual}

-- V10 of a support: A(n,d,w) is at most the local bound of its dual, for each index i where it allows more than 0 from the lesser of the bound
-- of A(n,d,2i) and that of the doubly constant codes of (w,i,n − w,i,d)
abbrev pub local_above : Option Support → RuleParts
local_above c = record {
  side = Upper;
  condition = λ e. has_weight e && is_some (local_at c e);
  rests_on = λ e. premises_of_dual (local_at c e);
  number = λ e vs. option_map (λ a. local_value a vs) (local_at c e);
}
