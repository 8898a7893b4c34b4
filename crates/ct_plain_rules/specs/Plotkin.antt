-- The average distance of the words (Plotkin 1960; MacWilliams and Sloane, chapter 2, section 2).
use Rattle.std.specs.Prelude.{◌&&◌, [], not, is_some}
use Rattle.ct_words.specs.declared.claim.Side.TheVariants.{Upper}
use Rattle.ct_elementary.specs.Bounds.{plotkin_value}
use Rattle.ct_rule_parts.specs.Parts.{RuleParts, has_weight}

-- A(n,d) is at most 2⌊d/(2d-n)⌋ for even d and d ≤ n < 2d, 4d for n = 2d; at odd d that of A(n+1,d+1)
abbrev pub plotkin : RuleParts
plotkin = record {
  side = Upper;
  condition = λ e. not (has_weight e) && is_some (plotkin_value e.n e.d);
  rests_on = λ e. [];
  number = λ e vs. plotkin_value e.n e.d;
}
