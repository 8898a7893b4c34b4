-- What the rule rests on is asked, where its condition holds.
use Rattle.std.proofs.Common.{◌≡◌, [], true, refl, sym, ap, ◌∙◌}
use Rattle.std.proofs.lemmas.Option.{cond_some}
use Rattle.ct_rule_parts.specs.Entries.{listed}
use Rattle.ct_slots.specs.Number.{bound_of}
use Rattle.ct_rules.specs.Rule.{parts_over}
use Rattle.ct_offers.proofs.PullingLemmas.{none_given, asked-applies, asked-value, unasked-none}
use Rattle.ct_offers.proofs.pulling.offer.Goals as goal
use Rattle.ct_offers.proofs.pulling.offer.Goals.{In_ok-rests_on}

rested : (c : In_ok-rests_on)
    → ((parts_over c.args.supports.now c.args.rule).condition c.args.entry ≡ true)
    × ((parts_over c.args.supports.now c.args.rule).rests_on c.args.entry ≡ listed c.in_ok-rests_on.field-0)
rested c =
    let p = parts_over c.args.supports.now c.args.rule in
    cond_some (p.condition c.args.entry) (p.rests_on c.args.entry) (listed c.in_ok-rests_on.field-0) (sym c.in_ok-rests_on.ensures)

pub value_where_defined-requires : goal.value_where_defined-requires
value_where_defined-requires c =
    let rest = rested (goal.at.value_where_defined-requires c).In_ok-rests_on in
    asked-applies c.args.supports.now (bound_of c.args.bounds.now) c.args.rule c.args.entry [] c.requires rest.0 (rest.1 ∙ ap listed c.in-Zero.is) true refl

pub returns-in-Zero-clause-value : goal.returns-in-Zero-clause-value
returns-in-Zero-clause-value c =
    let rest = rested (goal.at.returns-in-Zero-clause-value c).In_ok-rests_on in
    asked-value c.args.supports.now (bound_of c.args.bounds.now) c.args.rule c.args.entry [] c.requires rest.0 (rest.1 ∙ ap listed c.in-Zero.is) refl []
    c.value_where_defined.result refl c.value_where_defined.ensures.value

pub returns-in-Zero-clause-limit : goal.returns-in-Zero-clause-limit
returns-in-Zero-clause-limit c = c.value_where_defined.ensures.limit

pub offer_of_one-requires : goal.offer_of_one-requires
offer_of_one-requires c =
    let rest = rested (goal.at.offer_of_one-requires c).In_ok-rests_on in
    record { entry = c.requires; condition = rest.0; rests_on = rest.1 ∙ ap listed c.in-One.is }

pub returns-in-One : goal.returns-in-One
returns-in-One c = record { value = c.offer_of_one.ensures.value; limit = c.offer_of_one.ensures.limit }

pub offer_of_two-requires : goal.offer_of_two-requires
offer_of_two-requires c =
    let rest = rested (goal.at.offer_of_two-requires c).In_ok-rests_on in
    record { entry = c.requires; condition = rest.0; rests_on = rest.1 ∙ ap listed c.in-Two.is }

pub returns-in-Two : goal.returns-in-Two
returns-in-Two c = record { value = c.offer_of_two.ensures.value; limit = c.offer_of_two.ensures.limit }

pub offer_of_three-requires : goal.offer_of_three-requires
offer_of_three-requires c =
    let rest = rested (goal.at.offer_of_three-requires c).In_ok-rests_on in
    record { entry = c.requires; condition = rest.0; rests_on = rest.1 ∙ ap listed c.in-Three.is }

pub returns-in-Three : goal.returns-in-Three
returns-in-Three c = record { value = c.offer_of_three.ensures.value; limit = c.offer_of_three.ensures.limit }

pub offer_of_dual-requires : goal.offer_of_dual-requires
offer_of_dual-requires c =
    let rest = rested (goal.at.offer_of_dual-requires c).In_ok-rests_on in
    record { entry = c.requires; condition = rest.0; rests_on = rest.1 ∙ ap listed c.in-OfDual.is }

pub returns-in-OfDual : goal.returns-in-OfDual
returns-in-OfDual c = record { value = c.offer_of_dual.ensures.value; limit = c.offer_of_dual.ensures.limit }

pub returns-in_err-rests_on-clause-value : goal.returns-in_err-rests_on-clause-value
returns-in_err-rests_on-clause-value c =
    let p = parts_over c.args.supports.now c.args.rule in
    unasked-none c.args.supports.now (bound_of c.args.bounds.now) c.args.rule c.args.entry c.requires
    (none_given (p.condition c.args.entry) (p.rests_on c.args.entry) (sym c.in_err-rests_on.ensures)) c.from_residual.result c.from_residual.ensures

pub returns-in_err-rests_on-clause-limit : goal.returns-in_err-rests_on-clause-limit
returns-in_err-rests_on-clause-limit c = rw c.from_residual.ensures tt
