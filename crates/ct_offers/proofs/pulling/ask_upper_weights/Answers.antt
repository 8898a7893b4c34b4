use Rattle.std.proofs.Common.{arith}
use Rattle.ct_words.specs.declared.claim.Side.TheVariants.{Upper}
use Rattle.ct_rule_parts.specs.Slot.{Slot}
use Rattle.ct_rules.specs.declared.rule.Rule.TheVariants.{U10}
use Rattle.ct_rules.specs.Rule.{row_of}
use Rattle.ct_slots.specs.Number.{bound_of}
use Rattle.ct_offers.proofs.AskedLemmas.{weights_more}
use Rattle.ct_offers.proofs.ByWeightLemmas.{odd_within}
use Rattle.ct_offers.proofs.PulledLemmas.{IsPulled-trans, IsPulled-refl}
use Rattle.ct_offers.proofs.pulling.ask_upper_weights.Goals as goal

pub loop-w-preserved : goal.loop-w-preserved
unfolding row_of
loop-w-preserved c =
    let supports = c.args.supports.now in
    let f = bound_of c.args.bounds.now in
    let s : Slot = (Upper, c.args.entry) in
    let old = c.loop-w.best in
    let new = c.ask_own.new.best in (
      IsPulled-trans supports f s c.args.best.now old new c.loop-w.invariant.0 c.ask_own.ensures.pulled,
      weights_more supports f s old new U10 c.loop-w.w c.ask_own.ensures.pulled c.ask_own.ensures.within c.loop-w.invariant.1,
    )

pub returns-clause-within : goal.returns-clause-within
returns-clause-within c = λ w within. c.loop-w.invariant.1 w (omega (arith, c.loop-w-test.false))

pub returns-then-entry-eq1-clause-within : goal.returns-then-entry-eq1-clause-within
returns-then-entry-eq1-clause-within c = λ w within.
    odd_within c.args.supports.now (bound_of c.args.bounds.now) c.args.entry c.args.best.now.value c.if-entry-eq1.true w

pub loop-w-init : goal.loop-w-init
loop-w-init c = (
  IsPulled-refl c.args.supports.now (bound_of c.args.bounds.now) (Upper, c.args.entry) c.args.best.now,
  λ w below. absurd (omega (arith, below)),
)

pub returns-clause-pulled : goal.returns-clause-pulled
returns-clause-pulled c = c.loop-w.invariant.0

pub returns-then-entry-eq1-clause-pulled : goal.returns-then-entry-eq1-clause-pulled
returns-then-entry-eq1-clause-pulled c = IsPulled-refl c.args.supports.now (bound_of c.args.bounds.now) (Upper, c.args.entry) c.args.best.now
