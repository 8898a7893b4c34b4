use Rattle.std.proofs.Common.{length, sym, ◌∙◌, eqb-true}
use Rattle.ct_slots.specs.Number.{bound_of}
use Rattle.ct_offers.proofs.PulledLemmas.{IsPulled-refl, none_within}
use Rattle.ct_offers.proofs.pulling.ask_supports.Goals as goal

pub returns-then-is_empty-clause-pulled : goal.returns-then-is_empty-clause-pulled
returns-then-is_empty-clause-pulled c =
    IsPulled-refl c.args.supports.now (bound_of c.args.bounds.now) (c.args.side, c.args.entry) c.args.best.now

pub returns-then-is_empty-clause-within : goal.returns-then-is_empty-clause-within
returns-then-is_empty-clause-within c =
    none_within c.args.supports.now (bound_of c.args.bounds.now) (c.args.side, c.args.entry) c.args.best.now.value
    (eqb-true (length c.args.supports.now) 0 (sym c.is_empty.ensures ∙ c.if-is_empty.true))

pub ask_each_support-requires : goal.ask_each_support-requires
ask_each_support-requires c = record { entry = c.requires.entry; places = c.requires.places }

pub returns-clause-pulled : goal.returns-clause-pulled
returns-clause-pulled c = c.ask_each_support.ensures.pulled

pub returns-clause-within : goal.returns-clause-within
returns-clause-within c = c.ask_each_support.ensures.within
