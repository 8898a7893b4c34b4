use Rattle.std.proofs.Common.{ap, sym, ◌∙◌}
use Rattle.ct_rules.proofs.RuleNames.{place_among, place_is, no_place}
use Rattle.ct_rules.proofs.rows.place_of.Goals as goal

pub returns-in-Place : goal.returns-in-Place
returns-in-Place c = ap place_among (sym c.in-Place.is ∙ c.arguments_of.ensures) ∙ place_is c.args.rule

pub returns-in_default : goal.returns-in_default
returns-in_default c =
    sym (no_place c.arguments_of.result (λ place is. c.in_default.not-Place place is)) ∙ ap place_among c.arguments_of.ensures ∙ place_is c.args.rule
