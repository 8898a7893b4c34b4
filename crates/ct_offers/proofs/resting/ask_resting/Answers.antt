use Rattle.std.proofs.Common.{Some, None}
use Rattle.ct_words.specs.declared.claim.Side.TheVariants.{Lower, Upper}
use Rattle.ct_slots.specs.Number.{bound_of}
use Rattle.ct_offers.proofs.AskedLemmas.{asked_at}
use Rattle.ct_offers.proofs.PulledLemmas.{pulled_on}
use Rattle.ct_offers.proofs.resting.ask_resting.Goals as goal

pub returns-in-Lower-None-clause-within : goal.returns-in-Lower-None-clause-within
returns-in-Lower-None-clause-within c =
    asked_at c.args.supports.now (bound_of c.args.bounds.now) c.args.side Lower c.args.entry None c.ask_lower.new.best.value
    c.in-Lower-None.is-0 c.in-Lower-None.is-1 c.ask_lower.ensures.within

pub returns-in-Lower-Some-clause-within : goal.returns-in-Lower-Some-clause-within
returns-in-Lower-Some-clause-within c =
    asked_at c.args.supports.now (bound_of c.args.bounds.now) c.args.side Lower c.args.entry (Some _) c.ask_lower_with_weight.new.best.value
    c.in-Lower-Some.is-0 c.in-Lower-Some.is-1 c.ask_lower_with_weight.ensures.within

pub returns-in-Upper-None-clause-within : goal.returns-in-Upper-None-clause-within
returns-in-Upper-None-clause-within c =
    asked_at c.args.supports.now (bound_of c.args.bounds.now) c.args.side Upper c.args.entry None c.ask_upper.new.best.value
    c.in-Upper-None.is-0 c.in-Upper-None.is-1 c.ask_upper.ensures.within

pub returns-in-Upper-Some-clause-within : goal.returns-in-Upper-Some-clause-within
returns-in-Upper-Some-clause-within c =
    asked_at c.args.supports.now (bound_of c.args.bounds.now) c.args.side Upper c.args.entry (Some _) c.ask_upper_with_weight.new.best.value
    c.in-Upper-Some.is-0 c.in-Upper-Some.is-1 c.ask_upper_with_weight.ensures.within

pub returns-in-Lower-None-clause-pulled : goal.returns-in-Lower-None-clause-pulled
returns-in-Lower-None-clause-pulled c =
    pulled_on c.args.supports.now (bound_of c.args.bounds.now) c.args.side Lower c.args.entry
    c.args.best.now c.ask_lower.new.best c.in-Lower-None.is-0
    c.ask_lower.ensures.pulled

pub returns-in-Lower-Some-clause-pulled : goal.returns-in-Lower-Some-clause-pulled
returns-in-Lower-Some-clause-pulled c =
    pulled_on c.args.supports.now (bound_of c.args.bounds.now) c.args.side Lower c.args.entry
    c.args.best.now c.ask_lower_with_weight.new.best c.in-Lower-Some.is-0
    c.ask_lower_with_weight.ensures.pulled

pub returns-in-Upper-None-clause-pulled : goal.returns-in-Upper-None-clause-pulled
returns-in-Upper-None-clause-pulled c =
    pulled_on c.args.supports.now (bound_of c.args.bounds.now) c.args.side Upper c.args.entry
    c.args.best.now c.ask_upper.new.best c.in-Upper-None.is-0
    c.ask_upper.ensures.pulled

pub returns-in-Upper-Some-clause-pulled : goal.returns-in-Upper-Some-clause-pulled
returns-in-Upper-Some-clause-pulled c =
    pulled_on c.args.supports.now (bound_of c.args.bounds.now) c.args.side Upper c.args.entry
    c.args.best.now c.ask_upper_with_weight.new.best c.in-Upper-Some.is-0
    c.ask_upper_with_weight.ensures.pulled
