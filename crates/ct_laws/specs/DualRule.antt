-- The rules that name a dual.
use Rattle.std.specs.Prelude.{ℕ, if◌then◌else◌}
use Rattle.ct_words.specs.declared.entry.Entry.{Entry}
use Rattle.ct_rule_parts.specs.Parts.{has_weight}
use Rattle.ct_rules.specs.declared.rule.Rule.{Rule}
use Rattle.ct_rules.specs.declared.rule.Rule.TheVariants.{U11, V9}

-- the rule that names the dual of the support at a place: U11 at an entry without weight, V9 at one with weight
abbrev pub rule_of_dual : ℕ → Entry → Rule
rule_of_dual place e = if has_weight e then V9 place else U11 place
