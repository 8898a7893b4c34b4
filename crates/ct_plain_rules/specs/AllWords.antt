-- All words (MacWilliams and Sloane, chapter 1): there are 2^n words of length n.
use Rattle.std.specs.Prelude.{◌^◌, [], not, Some}
use Rattle.ct_words.specs.declared.claim.Side.TheVariants.{Upper}
use Rattle.ct_rule_parts.specs.Parts.{RuleParts, has_weight}

-- A(n,d) is at most 2^n
abbrev pub all_words : RuleParts
all_words = record {
  side = Upper;
  condition = λ e. not (has_weight e);
  rests_on = λ e. [];
  number = λ e vs. Some (2 ^ e.n);
}
