-- Words with no one in common (Johnson 1962; Brouwer, Shearer, Sloane and Smith 1990): two words of weight w differ at 2w places where they have
-- no one in common, so a code of distance 2w and weight w has at most ⌊n/w⌋ words, and words of w ones side by side are such a code.
use Rattle.std.specs.Prelude.{ℕ, ◌/◌, ◌==◌, ◌&&◌, Bool, [], Some}
use Rattle.ct_words.specs.declared.claim.Side.TheVariants.{Lower, Upper}
use Rattle.ct_words.specs.declared.entry.Entry.{Entry}
use Rattle.ct_rule_parts.specs.Parts.{RuleParts, has_weight, weight_of}

-- whether the weight is half the distance
abbrev pub has_disjoint_words : Entry → Bool
has_disjoint_words e = has_weight e && weight_of e == e.d / 2

-- ⌊n/δ⌋, δ = d/2: how many words of δ ones there are side by side
abbrev pub count_of_disjoint : Entry → ℕ
count_of_disjoint e = e.n / (e.d / 2)

-- for w = δ = d/2, A(n,d,w) is at least ⌊n/δ⌋
abbrev pub disjoint_below : RuleParts
disjoint_below = record {
  side = Lower;
  condition = has_disjoint_words;
  rests_on = λ e. [];
  number = λ e vs. Some (count_of_disjoint e);
}

-- for d = 2w, A(n,d,w) is at most ⌊n/w⌋
abbrev pub disjoint_above : RuleParts
disjoint_above = record {
  side = Upper;
  condition = has_disjoint_words;
  rests_on = λ e. [];
  number = λ e vs. Some (count_of_disjoint e);
}
