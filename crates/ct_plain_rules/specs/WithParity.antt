-- A parity digit (MacWilliams and Sloane, chapter 1, section 9): each word of a code of odd distance d - 1 with the parity of its weight after it makes a code of distance d.
use Rattle.std.specs.Prelude.{◌%◌, ◌==◌, ◌&&◌, ◌∷◌, [], not, Some}
use Rattle.ct_words.specs.declared.claim.Side.TheVariants.{Lower, Upper}
use Rattle.ct_rule_parts.specs.Parts.{RuleParts, has_weight, first}
use Rattle.ct_plain_rules.specs.Neighbours.{shorter_and_nearer, longer_and_farther}

-- for even d, A(n,d) is at least A(n-1,d-1)
abbrev pub parity_below : RuleParts
parity_below = record {
  side = Lower;
  condition = λ e. not (has_weight e) && e.d % 2 == 0;
  rests_on = λ e. shorter_and_nearer e ∷ [];
  number = λ e vs. Some (first vs);
}

-- for odd d, A(n,d) is at most A(n+1,d+1)
abbrev pub parity_above : RuleParts
parity_above = record {
  side = Upper;
  condition = λ e. not (has_weight e) && e.d % 2 == 1;
  rests_on = λ e. longer_and_farther e ∷ [];
  number = λ e vs. Some (first vs);
}
