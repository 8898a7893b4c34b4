-- A smaller distance (Brouwer, Shearer, Sloane and Smith 1990): a code of distance d + 2 is one of distance d. Two words of one weight have even distance.
use Rattle.std.specs.Prelude.{[], ◌∷◌, Some}
use Rattle.ct_words.specs.declared.claim.Side.TheVariants.{Lower, Upper}
use Rattle.ct_rule_parts.specs.Parts.{RuleParts, has_weight, first}
use Rattle.ct_weight_rules.specs.Neighbours.{two_nearer, two_farther}

-- A(n,d,w) is at least A(n,d+2,w)
abbrev pub nearer_below_of_weight : RuleParts
nearer_below_of_weight = record {
  side = Lower;
  condition = has_weight;
  rests_on = λ e. two_farther e ∷ [];
  number = λ e vs. Some (first vs);
}

-- A(n,d,w) is at most A(n,d-2,w)
abbrev pub nearer_above_of_weight : RuleParts
nearer_above_of_weight = record {
  side = Upper;
  condition = has_weight;
  rests_on = λ e. two_nearer e ∷ [];
  number = λ e vs. Some (first vs);
}
