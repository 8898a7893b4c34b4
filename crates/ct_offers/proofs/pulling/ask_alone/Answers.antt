use Rattle.ct_rule_parts.specs.Slot.{Slot}
use Rattle.ct_slots.specs.Number.{bound_of}
use Rattle.ct_rules.proofs.ClosedBounds.{no_better-trans}
use Rattle.ct_offers.proofs.GroundedLemmas.{all_but_grounds}
use Rattle.ct_offers.proofs.pulling.ask_alone.Goals as goal

pub returns-clause-within : goal.returns-clause-within
returns-clause-within c =
    let f = bound_of c.args.bounds.now in
    let s : Slot = (c.args.side, c.args.entry) in
    all_but_grounds c.args.supports.now f c.args.side c.args.entry c.ask_resting.new.best.value c.requires.grounded c.requires.entry
    (no_better-trans c.args.side (f s) c.args.best.now.value c.ask_resting.new.best.value c.requires.standing c.ask_resting.ensures.pulled.no_worse)
    c.ask_resting.ensures.within
