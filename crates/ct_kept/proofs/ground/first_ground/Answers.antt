use Rattle.std.proofs.Common.{[], sym, ap, ◌∙◌}
use Rattle.std.proofs.lemmas.Option.{none-some}
use Rattle.ct_rules.specs.Rule.{value_of}
use Rattle.ct_kept.proofs.GroundLemmas.{first_given, first_gives, own_ground_within}
use Rattle.ct_kept.specs.Inside.Ground.{first_ground_rule}
use Rattle.ct_kept.proofs.ground.first_ground.Goals as goal

pub unreachable-requires : goal.unreachable-requires
unreachable-requires c =
    let given = first_given (c.args.side, c.args.entry) c.requires in
    let rule = ap (λ r. value_of [] r c.args.entry []) c.first_rule-rule.ensures in
    none-some given.0 (sym c.in_default.is ∙ c.given.ensures ∙ rule ∙ given.1)

pub returns-clause-given : goal.returns-clause-given
returns-clause-given c =
    first_gives (c.args.side, c.args.entry) c.first_rule-rule.result c.in-Some.value c.first_rule-rule.ensures
    (sym c.given.ensures ∙ c.in-Some.is)

pub returns-clause-within : goal.returns-clause-within
returns-clause-within c =
    own_ground_within (c.args.side, c.args.entry) (first_ground_rule (c.args.side, c.args.entry)) c.in-Some.value
    (ap (λ r. value_of [] r c.args.entry []) (sym c.first_rule-rule.ensures) ∙ sym c.given.ensures ∙ c.in-Some.is)
