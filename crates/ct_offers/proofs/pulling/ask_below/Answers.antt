use Rattle.std.proofs.Common.{arith, sym, ◌∙◌}
use Rattle.std.specs.Prelude.{slice_get}
use Rattle.ct_words.specs.declared.claim.Side.TheVariants.{Lower}
use Rattle.ct_slots.specs.Number.{bound_of}
use Rattle.ct_offers.specs.Inside.Pulled.{given_rule}
use Rattle.ct_offers.proofs.PulledLemmas.{IsPulled-trans, within_better}
use Rattle.std.proofs.lemmas.Option.{none-some}
use Rattle.ct_offers.proofs.pulling.ask_below.Goals as goal

pub best_juxtaposition-requires-clause-some : goal.best_juxtaposition-requires-clause-some
best_juxtaposition-requires-clause-some c =
    let better = c.ask_supports.ensures.pulled.no_worse in
    let some = c.requires.some in
    omega (arith, better, some)

pub best_juxtaposition-requires-clause-two : goal.best_juxtaposition-requires-clause-two
best_juxtaposition-requires-clause-two c = λ near.
    let better = c.ask_supports.ensures.pulled.no_worse in
    let two = c.requires.two c.in-None.is near in
    omega (arith, better, two)

pub returns-in-None-clause-pulled : goal.returns-in-None-clause-pulled
returns-in-None-clause-pulled c =
    IsPulled-trans c.args.supports.now (bound_of c.args.bounds.now) (Lower, c.args.entry) c.args.best.now c.ask_supports.new.best
    c.best_juxtaposition.new.best c.ask_supports.ensures.pulled (c.best_juxtaposition.ensures.pulled c.args.supports.now)

pub returns-in-None-clause-given : goal.returns-in-None-clause-given
returns-in-None-clause-given c place =
    within_better c.args.supports.now (bound_of c.args.bounds.now) (Lower, c.args.entry) c.ask_supports.new.best.value
    c.best_juxtaposition.new.best.value (given_rule (slice_get c.args.supports.now place) (Lower, c.args.entry) place) (c.best_juxtaposition.ensures.pulled c.args.supports.now).no_worse
    (c.ask_supports.ensures.within place)

pub returns-in-None-clause-sums : goal.returns-in-None-clause-sums
returns-in-None-clause-sums c = λ none m k. c.best_juxtaposition.ensures.within c.args.supports.now m k

pub returns-in-Some-clause-sums : goal.returns-in-Some-clause-sums
returns-in-Some-clause-sums c = λ none. absurd (none-some _ (sym none ∙ c.in-Some.is))

pub returns-in-Some-clause-given : goal.returns-in-Some-clause-given
returns-in-Some-clause-given c = c.ask_supports.ensures.within

pub returns-in-Some-clause-pulled : goal.returns-in-Some-clause-pulled
returns-in-Some-clause-pulled c = c.ask_supports.ensures.pulled

pub best_juxtaposition-requires-clause-entry : goal.best_juxtaposition-requires-clause-entry
best_juxtaposition-requires-clause-entry c = c.requires.entry

pub best_juxtaposition-requires-clause-plain : goal.best_juxtaposition-requires-clause-plain
best_juxtaposition-requires-clause-plain c = c.in-None.is

pub best_juxtaposition-requires-clause-true_bounds : goal.best_juxtaposition-requires-clause-true_bounds
best_juxtaposition-requires-clause-true_bounds c = c.requires.true_bounds
