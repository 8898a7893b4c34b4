-- Words with a zero at a place (Johnson 1962; Brouwer, Shearer, Sloane and Smith 1990): without it they are a code of length n - 1 and weight
-- w, and each word of weight w has a zero at n - w of the n places.
use Rattle.std.specs.Prelude.{◌+◌, ◌-◌, ◌*◌, ◌/◌, [], ◌∷◌, Some}
use Rattle.std.specs.Int.{div_ceil}
use Rattle.ct_words.specs.declared.claim.Side.TheVariants.{Lower, Upper}
use Rattle.ct_rule_parts.specs.Parts.{RuleParts, has_weight, weight_of, first}
use Rattle.ct_weight_rules.specs.Neighbours.{zero_less, zero_more}

-- A(n,d,w) is at least ⌈(n+1-w)·A(n+1,d,w)/(n+1)⌉
abbrev pub johnson_zero_below : RuleParts
johnson_zero_below = record {
  side = Lower;
  condition = has_weight;
  rests_on = λ e. zero_more e ∷ [];
  number = λ e vs. Some (div_ceil ((e.n + 1 - weight_of e) * first vs) (e.n + 1));
}

-- A(n,d,w) is at most ⌊n·A(n-1,d,w)/(n-w)⌋; w < n, since w is at most the length n - 1
abbrev pub johnson_zero_above : RuleParts
johnson_zero_above = record {
  side = Upper;
  condition = has_weight;
  rests_on = λ e. zero_less e ∷ [];
  number = λ e vs. Some (e.n * first vs / (e.n - weight_of e));
}
