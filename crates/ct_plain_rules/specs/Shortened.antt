-- Shortened codes (MacWilliams and Sloane, chapter 1, section 9): the words with a 0 and those with a 1 at a place, without it, are codes of length n - 1.
use Rattle.std.specs.Prelude.{◌*◌, ◌∷◌, [], not, Some}
use Rattle.ct_words.specs.declared.claim.Side.TheVariants.{Lower, Upper}
use Rattle.ct_rule_parts.specs.Parts.{RuleParts, has_weight, half_up, first}
use Rattle.ct_plain_rules.specs.Neighbours.{shorter, longer}

-- A(n,d) is at least ⌈A(n+1,d)/2⌉
abbrev pub shortened_below : RuleParts
shortened_below = record {
  side = Lower;
  condition = λ e. not (has_weight e);
  rests_on = λ e. longer e ∷ [];
  number = λ e vs. Some (half_up (first vs));
}

-- A(n,d) is at most 2·A(n-1,d)
abbrev pub shortened_above : RuleParts
shortened_above = record {
  side = Upper;
  condition = λ e. not (has_weight e);
  rests_on = λ e. shorter e ∷ [];
  number = λ e vs. Some (2 * first vs);
}
