use Rattle.ct_rules.specs.Listing.{rules_alone}
use Rattle.ct_slots.specs.Number.{bound_of}
use Rattle.ct_offers.proofs.LimitLemmas.{at_limit}
use Rattle.ct_offers.proofs.PulledLemmas.{IsPulled-trans, all_within_better, some_lower}
use Rattle.ct_offers.proofs.pulling.ask_unsupported.Goals as goal

pub ask_alone-requires : goal.ask_alone-requires
ask_alone-requires c = record { entry = c.requires.entry; grounded = c.requires.grounded; standing = c.requires.standing }

pub ask_by_weight-requires : goal.ask_by_weight-requires
ask_by_weight-requires c = record {
  entry = c.requires.entry;
  true_bounds = c.requires.true_bounds;
  some = some_lower (bound_of c.args.bounds.now) c.args.side c.args.entry c.args.best.now.value c.ask_alone.new.best.value c.requires.true_bounds
      c.requires.entry c.requires.standing c.ask_alone.ensures.pulled.no_worse;
}

pub returns-then-best-limit : goal.returns-then-best-limit
returns-then-best-limit c = record {
  pulled = c.ask_alone.ensures.pulled;
  alone = c.ask_alone.ensures.within;
  by_weight = λ r by side.
      at_limit c.args.supports.now (bound_of c.args.bounds.now) (c.args.side, c.args.entry) c.ask_alone.new.best.value c.args.limit
      c.if-best-limit.true c.requires.limit r side;
}

pub returns : goal.returns
returns c =
    let supports = c.args.supports.now in
    let f = bound_of c.args.bounds.now in
    let alone = c.ask_alone.new.best in
    let last = c.ask_by_weight.new.best in
    record {
      pulled = IsPulled-trans supports f (c.args.side, c.args.entry) c.args.best.now alone last c.ask_alone.ensures.pulled c.ask_by_weight.ensures.pulled;
      alone = all_within_better supports f (c.args.side, c.args.entry) alone.value last.value (rules_alone (c.args.side, c.args.entry))
          c.ask_by_weight.ensures.pulled.no_worse c.ask_alone.ensures.within;
      by_weight = c.ask_by_weight.ensures.within;
    }
