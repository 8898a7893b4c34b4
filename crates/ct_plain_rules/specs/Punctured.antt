-- A place left out (MacWilliams and Sloane, chapter 1, section 9): the words of a code of length n + 1 and distance d + 1 without a place are a code of length n and distance d.
use Rattle.std.specs.Prelude.{◌∷◌, [], not, Some}
use Rattle.ct_words.specs.declared.claim.Side.TheVariants.{Lower, Upper}
use Rattle.ct_rule_parts.specs.Parts.{RuleParts, has_weight, first}
use Rattle.ct_plain_rules.specs.Neighbours.{shorter_and_nearer, longer_and_farther}

-- A(n,d) is at least A(n+1,d+1)
abbrev pub punctured_below : RuleParts
punctured_below = record {
  side = Lower;
  condition = λ e. not (has_weight e);
  rests_on = λ e. longer_and_farther e ∷ [];
  number = λ e vs. Some (first vs);
}

-- A(n,d) is at most A(n-1,d-1)
abbrev pub punctured_above : RuleParts
punctured_above = record {
  side = Upper;
  condition = λ e. not (has_weight e);
  rests_on = λ e. shorter_and_nearer e ∷ [];
  number = λ e vs. Some (first vs);
}
