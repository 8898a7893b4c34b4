-- The words outside the balls (Johnson 1962; MacWilliams and Sloane, chapter 17, section 3): for d = 2δ - 1, at least C(n,δ) - C(d,δ-1)·A(n,d+1,d)
-- of the words at distance δ from a word of the code lie in no ball of radius δ - 1, and each of them is that far from at most ⌊n/δ⌋ words of it.
use Rattle.std.specs.Prelude.{[], ◌∷◌, not}
use Rattle.ct_words.specs.declared.claim.Side.TheVariants.{Upper}
use Rattle.ct_johnson.specs.Bounds.{johnson_odd}
use Rattle.ct_rule_parts.specs.Parts.{RuleParts, has_weight, half_up, first}
use Rattle.ct_weight_rules.specs.Neighbours.{around}

-- for d = 2δ - 1 ≤ n, A(n,d) is at most ⌊2^n·F/(F·V(n,δ-1)+R)⌋, with F = ⌊n/δ⌋, V(n,e) the size of a ball and
-- R = C(n,δ) - C(d,δ-1)·A(n,d+1,d); there is no number where R is not above 0
abbrev pub johnson_above : RuleParts
johnson_above = record {
  side = Upper;
  condition = λ e. not (has_weight e);
  rests_on = λ e. around e ∷ [];
  number = λ e vs. johnson_odd e.n (half_up e.d) (first vs);
}
