-- One word (MacWilliams and Sloane, chapter 1): a word is a code of each distance.
use Rattle.std.specs.Prelude.{[], not, Some}
use Rattle.ct_words.specs.declared.claim.Side.TheVariants.{Lower}
use Rattle.ct_rule_parts.specs.Parts.{RuleParts, has_weight}

-- A(n,d) is at least 1
abbrev pub one_word : RuleParts
one_word = record {
  side = Lower;
  condition = λ e. not (has_weight e);
  rests_on = λ e. [];
  number = λ e vs. Some 1;
}
