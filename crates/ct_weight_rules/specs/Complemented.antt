-- Complements (Brouwer, Shearer, Sloane and Smith 1990): the words of a code of weight n - w with each digit turned are a code of weight w.
use Rattle.std.specs.Prelude.{[], ◌∷◌, Some}
use Rattle.ct_words.specs.declared.claim.Side.TheVariants.{Lower, Upper}
use Rattle.ct_rule_parts.specs.Parts.{RuleParts, has_weight, first}
use Rattle.ct_weight_rules.specs.Neighbours.{complementary}

-- A(n,d,w) is at least A(n,d,n-w)
abbrev pub complemented_below : RuleParts
complemented_below = record {
  side = Lower;
  condition = has_weight;
  rests_on = λ e. complementary e ∷ [];
  number = λ e vs. Some (first vs);
}

-- A(n,d,w) is at most A(n,d,n-w)
abbrev pub complemented_above : RuleParts
complemented_above = record {
  side = Upper;
  condition = has_weight;
  rests_on = λ e. complementary e ∷ [];
  number = λ e vs. Some (first vs);
}
