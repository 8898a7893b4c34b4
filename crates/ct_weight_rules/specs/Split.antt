-- Words by one digit (Brouwer, Shearer, Sloane and Smith 1990): the words of a code with a 0 at a place and those with a 1 there, without it, are codes of length n - 1,
-- of weight w and of weight w - 1.
use Rattle.std.specs.Prelude.{◌+◌, [], ◌∷◌, ◌&&◌, nat_le, Some}
use Rattle.ct_words.specs.declared.claim.Side.TheVariants.{Upper}
use Rattle.ct_rule_parts.specs.Parts.{RuleParts, has_weight, weight_of, first, second}
use Rattle.ct_weight_rules.specs.Neighbours.{zero_less, one_less}

-- for w ≥ 1, A(n,d,w) is at most A(n-1,d,w) + A(n-1,d,w-1)
abbrev pub split : RuleParts
split = record {
  side = Upper;
  condition = λ e. has_weight e && nat_le 1 (weight_of e);
  rests_on = λ e. zero_less e ∷ one_less e ∷ [];
  number = λ e vs. Some (first vs + second vs);
}
