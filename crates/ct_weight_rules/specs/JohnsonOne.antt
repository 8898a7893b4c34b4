-- Words with a one at a place (Johnson 1962; Brouwer, Shearer, Sloane and Smith 1990): without it they are a code of length n - 1 and weight
-- w - 1, and each word of weight w has a one at w of the n places.
use Rattle.std.specs.Prelude.{◌+◌, ◌*◌, ◌/◌, ◌&&◌, nat_le, [], ◌∷◌, Some}
use Rattle.std.specs.Int.{div_ceil}
use Rattle.ct_words.specs.declared.claim.Side.TheVariants.{Lower, Upper}
use Rattle.ct_rule_parts.specs.Parts.{RuleParts, has_weight, weight_of, first}
use Rattle.ct_weight_rules.specs.Neighbours.{one_less, one_more}

-- A(n,d,w) is at least ⌈(w+1)·A(n+1,d,w+1)/(n+1)⌉
abbrev pub johnson_one_below : RuleParts
johnson_one_below = record {
  side = Lower;
  condition = has_weight;
  rests_on = λ e. one_more e ∷ [];
  number = λ e vs. Some (div_ceil ((weight_of e + 1) * first vs) (e.n + 1));
}

-- for w ≥ 1, A(n,d,w) is at most ⌊n·A(n-1,d,w-1)/w⌋
abbrev pub johnson_one_above : RuleParts
johnson_one_above = record {
  side = Upper;
  condition = λ e. has_weight e && nat_le 1 (weight_of e);
  rests_on = λ e. one_less e ∷ [];
  number = λ e vs. Some (e.n * first vs / weight_of e);
}
