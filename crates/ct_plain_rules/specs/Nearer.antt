-- A smaller distance (MacWilliams and Sloane, chapter 1): a code of distance d + 1 is one of distance d.
use Rattle.std.specs.Prelude.{◌∷◌, [], not, Some}
use Rattle.ct_words.specs.declared.claim.Side.TheVariants.{Lower, Upper}
use Rattle.ct_rule_parts.specs.Parts.{RuleParts, has_weight, first}
use Rattle.ct_plain_rules.specs.Neighbours.{nearer, farther}

-- A(n,d) is at least A(n,d+1)
abbrev pub nearer_below : RuleParts
nearer_below = record {
  side = Lower;
  condition = λ e. not (has_weight e);
  rests_on = λ e. farther e ∷ [];
  number = λ e vs. Some (first vs);
}

-- A(n,d) is at most A(n,d-1)
abbrev pub nearer_above : RuleParts
nearer_above = record {
  side = Upper;
  condition = λ e. not (has_weight e);
  rests_on = λ e. nearer e ∷ [];
  number = λ e vs. Some (first vs);
}
