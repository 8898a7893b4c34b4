-- One word (Brouwer, Shearer, Sloane and Smith 1990): a word of weight w is a code of each distance.
use Rattle.std.specs.Prelude.{[], Some}
use Rattle.ct_words.specs.declared.claim.Side.TheVariants.{Lower}
use Rattle.ct_rule_parts.specs.Parts.{RuleParts, has_weight}

-- A(n,d,w) is at least 1
abbrev pub one_word_of_weight : RuleParts
one_word_of_weight = record {
  side = Lower;
  condition = has_weight;
  rests_on = λ e. [];
  number = λ e vs. Some 1;
}
