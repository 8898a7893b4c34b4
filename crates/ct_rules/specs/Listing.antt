-- The rules by what they bound, and by their names.
use Rattle.std.specs.Prelude.{ℕ, if◌then◌else◌, List, [], ◌∷◌, ◌++◌, Option, Some, None}
use Rattle.std.specs.Str.{bytes_eq}
use Rattle.ct_words.specs.declared.claim.Side.{Side}
use Rattle.ct_words.specs.declared.claim.Side.TheVariants.{Lower, Upper}
use Rattle.ct_rule_parts.specs.Parts.{has_weight}
use Rattle.ct_rule_parts.specs.Slot.{Slot}
use Rattle.ct_rules.specs.declared.rule.Rule.{Rule}
use Rattle.ct_rules.specs.declared.rule.TheConstants.{LOWER_RULES, UPPER_RULES, LOWER_WEIGHT_RULES, UPPER_WEIGHT_RULES, OTHER_LOWER_RULES, OTHER_UPPER_RULES}
use Rattle.ct_rules.specs.Rule.{name_of}

-- the rules with neither numbers nor a support
abbrev pub rules_alone : Slot → List Rule
rules_alone (Lower, e) = if has_weight e then LOWER_WEIGHT_RULES else LOWER_RULES
rules_alone (Upper, e) = if has_weight e then UPPER_WEIGHT_RULES else UPPER_RULES

-- all that give bounds from a side, each once, with arguments that are 0
abbrev pub rules_on : Side → List Rule
rules_on Lower = LOWER_RULES ++ LOWER_WEIGHT_RULES ++ OTHER_LOWER_RULES
rules_on Upper = UPPER_RULES ++ UPPER_WEIGHT_RULES ++ OTHER_UPPER_RULES

-- the first of these rules that has the name
abbrev pub first_named : List ℕ → List Rule → Option Rule
first_named name [] = None
first_named name (r ∷ rules) = if bytes_eq (name_of r) name then Some r else first_named name rules

-- the rule for bounds of this side that has the name, its arguments 0
unfoldable pub rule_named : Side → List ℕ → Option Rule
rule_named side name = first_named name (rules_on side)
