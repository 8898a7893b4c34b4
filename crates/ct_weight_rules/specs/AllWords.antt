-- All words of the weight (Brouwer, Shearer, Sloane and Smith 1990): there are C(n,w) words of length n and weight w.
use Rattle.std.specs.Prelude.{[], Some}
use Rattle.ct_words.specs.declared.claim.Side.TheVariants.{Upper}
use Rattle.ct_words.specs.Counting.Binomials.{choose}
use Rattle.ct_rule_parts.specs.Parts.{RuleParts, has_weight, weight_of}

-- A(n,d,w) is at most C(n,w)
abbrev pub all_words_of_weight : RuleParts
all_words_of_weight = record {
  side = Upper;
  condition = has_weight;
  rests_on = λ e. [];
  number = λ e vs. Some (choose e.n (weight_of e));
}
