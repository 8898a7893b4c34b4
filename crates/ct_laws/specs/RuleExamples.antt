-- Lines that are known.
use Rattle.std.specs.Prelude.{ℕ, [], ◌∷◌}
use Rattle.ct_rule_parts.specs.Slot.{claim_at, lower_at}
use Rattle.ct_rules.specs.declared.rule.Rule.TheVariants.{L1, L6, L8, L10}
use Rattle.ct_rules.specs.Derivation.{LineValue}

-- A(3,4) ≥ 1: one word
abbrev pub one_at_three : LineValue
one_at_three = record { claim = claim_at (lower_at 3 4) 1; rule = L1; from = [] }

-- A(4,4) ≥ 1: one word
abbrev pub one_at_four : LineValue
one_at_four = record { claim = claim_at (lower_at 4 4) 1; rule = L1; from = [] }

-- A(6,4) ≥ 4: u followed by u + v, from the first line
abbrev pub four_at_six : LineValue
four_at_six = record { claim = claim_at (lower_at 6 4) 4; rule = L8; from = 0 ∷ [] }

-- A(5,3) ≥ 4: without a place, from the second line
abbrev pub four_at_five : LineValue
four_at_five = record { claim = claim_at (lower_at 5 3) 4; rule = L6; from = 1 ∷ [] }

-- A(6,4) ≥ 4 by a code of the support at a place
abbrev pub four_by_support : ℕ → LineValue
four_by_support place = record { claim = claim_at (lower_at 6 4) 4; rule = L10 place; from = [] }
