-- Far words (MacWilliams and Sloane, chapter 1): two words differ at no more places than there are.
use Rattle.std.specs.Prelude.{◌&&◌, nat_lt, [], not}
use Rattle.ct_words.specs.declared.claim.Side.TheVariants.{Upper}
use Rattle.ct_elementary.specs.Bounds.{far_value}
use Rattle.ct_rule_parts.specs.Parts.{RuleParts, has_weight}

-- where d > n, A(n,d) is at most 1
abbrev pub far_words : RuleParts
far_words = record {
  side = Upper;
  condition = λ e. not (has_weight e) && nat_lt e.n e.d;
  rests_on = λ e. [];
  number = λ e vs. far_value e.n e.d;
}
