use Rattle.std.proofs.Common.{◌∙◌}
use Rattle.ct_slots.specs.Number.{bound_of}
use Rattle.ct_offers.proofs.pulling.ask.Goals as goal

pub returns-clause-pulled : goal.returns-clause-pulled
returns-clause-pulled c =
    c.consider.ensures.pulled c.args.supports.now (bound_of c.args.bounds.now) c.args.entry c.requires.side c.offer.ensures.value

pub returns-clause-within : goal.returns-clause-within
returns-clause-within c = λ v given. c.consider.ensures.within v (c.offer.ensures.value ∙ given)
