-- A digit more (MacWilliams and Sloane, chapter 1): each word of a code of length n - 1 with a 0 after it makes a code of length n.
use Rattle.std.specs.Prelude.{◌∷◌, [], not, Some}
use Rattle.ct_words.specs.declared.claim.Side.TheVariants.{Lower, Upper}
use Rattle.ct_rule_parts.specs.Parts.{RuleParts, has_weight, first}
use Rattle.ct_plain_rules.specs.Neighbours.{shorter, longer}

-- A(n,d) is at least A(n-1,d)
abbrev pub lengthened_below : RuleParts
lengthened_below = record {
  side = Lower;
  condition = λ e. not (has_weight e);
  rests_on = λ e. shorter e ∷ [];
  number = λ e vs. Some (first vs);
}

-- A(n,d) is at most A(n+1,d)
abbrev pub lengthened_above : RuleParts
lengthened_above = record {
  side = Upper;
  condition = λ e. not (has_weight e);
  rests_on = λ e. longer e ∷ [];
  number = λ e vs. Some (first vs);
}
