use Rattle.std.proofs.Common.{ap, ap₂, sym, ◌∙◌}
use Rattle.std.specs.Option.{option_or}
use Rattle.ct_words.specs.declared.claim.Side.{Side}
use Rattle.ct_rules.specs.declared.rule.TheConstants.{LOWER_RULES, LOWER_WEIGHT_RULES, OTHER_LOWER_RULES, UPPER_RULES, UPPER_WEIGHT_RULES, OTHER_UPPER_RULES}
use Rattle.ct_rules.specs.Listing.{rule_named}
use Rattle.ct_rules.proofs.RuleNames.{first_of_three}
use Rattle.ct_rules.proofs.listing.rule_named.Goals as goal

pub returns-in-Lower : goal.returns-in-Lower
unfolding rule_named
returns-in-Lower c =
    let name = c.args.name.now in
    c.or-in-Lower.ensures
    ∙ ap₂ option_or (c.or.ensures ∙ ap₂ option_or c.first_named.ensures c.first_named-in-Lower.ensures) c.first_named-in-Lower-2.ensures
    ∙ sym (first_of_three name LOWER_RULES LOWER_WEIGHT_RULES OTHER_LOWER_RULES)
    ∙ sym (ap (λ (side : Side). rule_named side name) c.in-Lower.is)

pub returns-in-Upper : goal.returns-in-Upper
unfolding rule_named
returns-in-Upper c =
    let name = c.args.name.now in
    c.or-in-Upper-2.ensures
    ∙ ap₂ option_or (c.or-in-Upper.ensures ∙ ap₂ option_or c.first_named-in-Upper.ensures c.first_named-in-Upper-2.ensures) c.first_named-in-Upper-3.ensures
    ∙ sym (first_of_three name UPPER_RULES UPPER_WEIGHT_RULES OTHER_UPPER_RULES)
    ∙ sym (ap (λ (side : Side). rule_named side name) c.in-Upper.is)
