use Rattle.std.proofs.Common.{sym, ◌∙◌}
use Rattle.ct_rules.specs.Rule.{row_of}
use Rattle.ct_offers.proofs.pulling.given_rule.Goals as goal

pub returns-in-Lower-None-clause-side : goal.returns-in-Lower-None-clause-side
unfolding row_of
returns-in-Lower-None-clause-side c = sym c.in-Lower-None.is-0

pub returns-in-Lower-Some-clause-side : goal.returns-in-Lower-Some-clause-side
unfolding row_of
returns-in-Lower-Some-clause-side c = sym c.in-Lower-Some.is-0

pub returns-in-Upper-None-clause-side : goal.returns-in-Upper-None-clause-side
returns-in-Upper-None-clause-side c = c.bounding_rule.ensures.side ∙ sym c.in-Upper-None.is-0

pub returns-in-Upper-Some-clause-side : goal.returns-in-Upper-Some-clause-side
returns-in-Upper-Some-clause-side c = c.bounding_rule_of_weight.ensures.side ∙ sym c.in-Upper-Some.is-0
