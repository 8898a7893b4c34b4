-- A digit more (Brouwer, Shearer, Sloane and Smith 1990): each word of a code of length n - 1 with one digit after it, the same for all, makes a code of length n.
use Rattle.std.specs.Prelude.{[], ◌∷◌, ◌&&◌, nat_le, Some}
use Rattle.ct_words.specs.declared.claim.Side.TheVariants.{Lower}
use Rattle.ct_rule_parts.specs.Parts.{RuleParts, has_weight, weight_of, first}
use Rattle.ct_weight_rules.specs.Neighbours.{zero_less, one_less}

-- by a 0 after each word: A(n,d,w) is at least A(n-1,d,w)
abbrev pub lengthened_by_zero : RuleParts
lengthened_by_zero = record {
  side = Lower;
  condition = has_weight;
  rests_on = λ e. zero_less e ∷ [];
  number = λ e vs. Some (first vs);
}

-- by a 1 after each word: for w ≥ 1, A(n,d,w) is at least A(n-1,d,w-1)
abbrev pub lengthened_by_one : RuleParts
lengthened_by_one = record {
  side = Lower;
  condition = λ e. has_weight e && nat_le 1 (weight_of e);
  rests_on = λ e. one_less e ∷ [];
  number = λ e vs. Some (first vs);
}
