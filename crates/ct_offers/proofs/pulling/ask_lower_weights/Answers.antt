use Rattle.std.proofs.Common.{arith}
use Rattle.ct_words.specs.declared.claim.Side.TheVariants.{Lower}
use Rattle.ct_rule_parts.specs.Slot.{Slot}
use Rattle.ct_rules.specs.declared.rule.Rule.TheVariants.{L9}
use Rattle.ct_rules.specs.Rule.{row_of}
use Rattle.ct_slots.specs.Number.{bound_of}
use Rattle.ct_offers.proofs.AskedLemmas.{weights_more_from}
use Rattle.ct_offers.proofs.ByWeightLemmas.{weights_enough}
use Rattle.ct_offers.proofs.PulledLemmas.{IsPulled-trans, IsPulled-refl}
use Rattle.ct_offers.proofs.pulling.ask_lower_weights.Goals as goal

pub loop-w-preserved : goal.loop-w-preserved
unfolding row_of
loop-w-preserved c =
    let supports = c.args.supports.now in
    let f = bound_of c.args.bounds.now in
    let s : Slot = (Lower, c.args.entry) in
    let old = c.loop-w.best in
    let new = c.ask_own.new.best in (
      IsPulled-trans supports f s c.args.best.now old new c.loop-w.invariant.0 c.ask_own.ensures.pulled,
      weights_more_from supports f s old new L9 c.div_ceil-half.result c.loop-w.w c.ask_own.ensures.pulled c.ask_own.ensures.within c.loop-w.invariant.1,
    )

pub returns-clause-within : goal.returns-clause-within
returns-clause-within c =
    let f = bound_of c.args.bounds.now in
    let better = c.loop-w.invariant.0.no_worse in
    let some = c.requires.some in
    let half = c.div_ceil-half.ensures in
    let end = c.saturating_sub-w-end.ensures in
    weights_enough c.args.supports.now f c.args.entry c.loop-w.best.value c.div_ceil-half.result c.loop-w.w c.requires.true_bounds
    (omega (arith, better, some)) (omega (arith, half)) (omega (arith, end, c.loop-w-test.false)) c.loop-w.invariant.1

pub loop-w-init : goal.loop-w-init
loop-w-init c = (
  IsPulled-refl c.args.supports.now (bound_of c.args.bounds.now) (Lower, c.args.entry) c.args.best.now,
  λ w half below. absurd (omega (arith, half, below)),
)

pub returns-clause-pulled : goal.returns-clause-pulled
returns-clause-pulled c = c.loop-w.invariant.0
