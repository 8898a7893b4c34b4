-- Sphere packing (Hamming 1950; MacWilliams and Sloane, chapter 1, section 5): the balls about the words have no word in common.
use Rattle.std.specs.Prelude.{[], not, Some}
use Rattle.ct_words.specs.declared.claim.Side.TheVariants.{Upper}
use Rattle.ct_elementary.specs.Bounds.{sphere_packing_value}
use Rattle.ct_rule_parts.specs.Parts.{RuleParts, has_weight}

-- A(n,d) is at most ⌊2^n/V(n,⌊(d-1)/2⌋)⌋, V(n,e) the size of a ball of radius e
abbrev pub sphere_packing : RuleParts
sphere_packing = record {
  side = Upper;
  condition = λ e. not (has_weight e);
  rests_on = λ e. [];
  number = λ e vs. Some (sphere_packing_value e.n e.d);
}
