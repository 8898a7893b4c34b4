-- Far words (Johnson 1962; Brouwer, Shearer, Sloane and Smith 1990): two words of length n and weight w differ at no more than 2w places, nor at
-- more than 2(n - w).
use Rattle.std.specs.Prelude.{◌-◌, ◌*◌, ◌&&◌, min, nat_lt, Bool, [], Some}
use Rattle.ct_words.specs.declared.claim.Side.TheVariants.{Upper}
use Rattle.ct_words.specs.declared.entry.Entry.{Entry}
use Rattle.ct_rule_parts.specs.Parts.{RuleParts, has_weight, weight_of}

-- whether no two words of the weight are so far apart: d > 2·min(w, n - w)
abbrev pub has_no_far_words : Entry → Bool
has_no_far_words e = has_weight e && nat_lt (2 * min (weight_of e) (e.n - weight_of e)) e.d

-- for d > 2·min(w, n - w), A(n,d,w) is at most 1
abbrev pub far_words_of_weight : RuleParts
far_words_of_weight = record {
  side = Upper;
  condition = has_no_far_words;
  rests_on = λ e. [];
  number = λ e vs. Some 1;
}
