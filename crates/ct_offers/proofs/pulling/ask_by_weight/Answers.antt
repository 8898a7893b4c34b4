use Rattle.ct_words.specs.declared.claim.Side.TheVariants.{Lower, Upper}
use Rattle.ct_rules.specs.declared.rule.Rule.TheVariants.{U10}
use Rattle.ct_rules.specs.Rule.{row_of}
use Rattle.ct_slots.specs.Number.{bound_of}
use Rattle.ct_offers.proofs.ByWeightLemmas.{by_weight_none, by_weight_below, by_weight_above, by_weight_on}
use Rattle.ct_offers.proofs.PulledLemmas.{within_better, IsPulled-trans, pulled_on, IsPulled-refl}
use Rattle.ct_offers.proofs.pulling.ask_by_weight.Goals as goal

pub returns-in-Some-clause-within : goal.returns-in-Some-clause-within
returns-in-Some-clause-within c = λ r by same.
    by_weight_none c.args.supports.now (bound_of c.args.bounds.now) c.args.side c.args.entry c.in-Some.field-0 c.args.best.now.value c.in-Some.is r by

pub returns-in-Lower-clause-within : goal.returns-in-Lower-clause-within
returns-in-Lower-clause-within c =
    let supports = c.args.supports.now in
    let f = bound_of c.args.bounds.now in
    let best = c.ask_lower_weights.new.best.value in
    by_weight_on supports f c.args.side Lower c.args.entry best c.in-Lower.is
    (by_weight_below supports f c.args.entry best c.ask_lower_weights.ensures.within)

pub returns-in-Upper-clause-within : goal.returns-in-Upper-clause-within
unfolding row_of
returns-in-Upper-clause-within c =
    let supports = c.args.supports.now in
    let f = bound_of c.args.bounds.now in
    let e = c.args.entry in
    let first = c.ask_upper_weights.new.best.value in
    let best = c.ask_own.new.best.value in
    by_weight_on supports f c.args.side Upper e best c.in-Upper.is
    (by_weight_above supports f e best c.ask_own.ensures.within
    (λ w within. within_better supports f (Upper, e) first best (U10 w) c.ask_own.ensures.pulled.no_worse (c.ask_upper_weights.ensures.within w within)))

pub returns-in-Upper-clause-pulled : goal.returns-in-Upper-clause-pulled
unfolding row_of
returns-in-Upper-clause-pulled c =
    let supports = c.args.supports.now in
    let f = bound_of c.args.bounds.now in
    pulled_on supports f c.args.side Upper c.args.entry c.args.best.now c.ask_own.new.best c.in-Upper.is
    (IsPulled-trans supports f (Upper, c.args.entry) c.args.best.now c.ask_upper_weights.new.best c.ask_own.new.best c.ask_upper_weights.ensures.pulled
    c.ask_own.ensures.pulled)

pub returns-in-Lower-clause-pulled : goal.returns-in-Lower-clause-pulled
returns-in-Lower-clause-pulled c =
    pulled_on c.args.supports.now (bound_of c.args.bounds.now) c.args.side Lower c.args.entry c.args.best.now c.ask_lower_weights.new.best c.in-Lower.is
    c.ask_lower_weights.ensures.pulled

pub returns-in-Some-clause-pulled : goal.returns-in-Some-clause-pulled
returns-in-Some-clause-pulled c = IsPulled-refl c.args.supports.now (bound_of c.args.bounds.now) (c.args.side, c.args.entry) c.args.best.now

pub ask_lower_weights-requires : goal.ask_lower_weights-requires
ask_lower_weights-requires c = record { entry = c.requires.entry; true_bounds = c.requires.true_bounds; some = c.requires.some c.in-Lower.is }
