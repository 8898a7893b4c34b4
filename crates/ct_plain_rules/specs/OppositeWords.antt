-- Two words (MacWilliams and Sloane, chapter 1): 0..0 and 1..1 differ at each of the n places.
use Rattle.std.specs.Prelude.{◌&&◌, nat_le, [], not, Some}
use Rattle.ct_words.specs.declared.claim.Side.TheVariants.{Lower}
use Rattle.ct_rule_parts.specs.Parts.{RuleParts, has_weight}

-- where d ≤ n, A(n,d) is at least 2
abbrev pub opposite_words : RuleParts
opposite_words = record {
  side = Lower;
  condition = λ e. not (has_weight e) && nat_le e.d e.n;
  rests_on = λ e. [];
  number = λ e vs. Some 2;
}
