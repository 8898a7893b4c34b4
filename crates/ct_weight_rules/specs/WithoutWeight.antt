-- A code of constant weight is a code (Brouwer, Shearer, Sloane and Smith 1990): of weight w and distance 2⌈d/2⌉, so of distance d.
use Rattle.std.specs.Prelude.{ℕ, [], ◌∷◌, not, Some}
use Rattle.ct_words.specs.declared.claim.Side.TheVariants.{Lower}
use Rattle.ct_rule_parts.specs.Parts.{RuleParts, has_weight, first}
use Rattle.ct_weight_rules.specs.Neighbours.{even_of_weight}

-- with the weight w: A(n,d) is at least A(n,2⌈d/2⌉,w)
abbrev pub without_weight : ℕ → RuleParts
without_weight w = record {
  side = Lower;
  condition = λ e. not (has_weight e);
  rests_on = λ e. even_of_weight e w ∷ [];
  number = λ e vs. Some (first vs);
}
