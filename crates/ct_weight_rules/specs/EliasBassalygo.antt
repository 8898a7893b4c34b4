-- The average of the words of weight w over translates (Elias; Bassalygo 1965; MacWilliams and Sloane, chapter 17): of a code of even weights the
-- 2^(n-1) translates by the words whose weight has the parity of w have C(n,w) words of weight w for each word of the code.
use Rattle.std.specs.Prelude.{ℕ, [], ◌∷◌, not, Some}
use Rattle.ct_words.specs.declared.claim.Side.TheVariants.{Upper}
use Rattle.ct_johnson.specs.Bounds.{average}
use Rattle.ct_rule_parts.specs.Parts.{RuleParts, has_weight, first}
use Rattle.ct_weight_rules.specs.Neighbours.{of_weight}

-- with the weight w: for even d, A(n,d) is at most ⌊2^(n-1)·A(n,d,w)/C(n,w)⌋
abbrev pub elias_bassalygo : ℕ → RuleParts
elias_bassalygo w = record {
  side = Upper;
  condition = λ e. not (has_weight e);
  rests_on = λ e. of_weight e w ∷ [];
  number = λ e vs. Some (average e.n w (first vs));
}
