use Rattle.std.proofs.Common.{ℕ, ◌<◌, Option, Some, subst, sym, inl}
use Rattle.std.proofs.lemmas.Option.{slice_get_within}
use Rattle.ct_rule_parts.specs.Slot.{Slot}
use Rattle.ct_rules.specs.declared.rule.Rule.{Rule}
use Rattle.ct_slots.specs.Number.{bound_of}
use Rattle.ct_offers.specs.Offers.{IsWithin}
use Rattle.ct_offers.proofs.PulledLemmas.{IsPulled-refl, IsPulled-trans, AreAskedAbove, asked_step, asked_all, first_next, next_of, left_to, fewer_left}
use Rattle.ct_offers.proofs.pulling.ask_each_support.Goals as goal

pub loop-next-init : goal.loop-next-init
loop-next-init c = (
  IsPulled-refl c.args.supports.now (bound_of c.args.bounds.now) (c.args.side, c.args.entry) c.args.best.now,
  λ place at. inl (c.last-next.ensures.last place at),
  first_next c.args.places.now c.args.entry c.last-next.result c.last-next.ensures.place,
)

pub before-next-requires : goal.before-next-requires
before-next-requires c =
    slice_get_within c.args.places.now c.in-Some.place (Some c.args.entry) (c.loop-next.invariant.2 c.in-Some.place c.in-Some.is)

pub loop-next-smaller : goal.loop-next-smaller
loop-next-smaller c =
    let at = c.loop-next.invariant.2 c.in-Some.place c.in-Some.is in
    subst (λ (o : Option ℕ). left_to c.before-next.result < left_to o) (sym c.in-Some.is)
    (fewer_left c.args.places.now c.args.entry c.before-next.result c.in-Some.place (c.before-next.ensures.place c.args.entry at))

pub loop-next-preserved : goal.loop-next-preserved
loop-next-preserved c =
    let supports = c.args.supports.now in
    let f = bound_of c.args.bounds.now in
    let e = c.args.entry in
    let s : Slot = (c.args.side, e) in
    let entries = c.args.places.now in
    let old = c.loop-next.best in
    let new = c.ask.new.best in
    let place = c.in-Some.place in
    let at = c.loop-next.invariant.2 place c.in-Some.is in (
      IsPulled-trans supports f s c.args.best.now old new c.loop-next.invariant.0 c.ask.ensures.pulled,
      asked_step supports f s entries old.value new.value place c.before-next.result c.ask.ensures.pulled.no_worse
          (subst (λ (o : Option ℕ). AreAskedAbove supports f s entries old.value o) c.in-Some.is c.loop-next.invariant.1) at
          (subst (λ (r : Rule). IsWithin supports f s new.value r) c.given_rule-rule.ensures.rule c.ask.ensures.within)
          (λ g other here there below. c.before-next.ensures.last g other here there below),
      next_of entries e c.before-next.result place (c.before-next.ensures.place e at),
    )

pub returns-clause-within : goal.returns-clause-within
returns-clause-within c =
    let supports = c.args.supports.now in
    let f = bound_of c.args.bounds.now in
    asked_all supports f (c.args.side, c.args.entry) c.args.places.now c.loop-next.best.value c.requires.entry c.requires.places
    (subst (λ (o : Option ℕ). AreAskedAbove supports f (c.args.side, c.args.entry) c.args.places.now c.loop-next.best.value o) c.in_default.is c.loop-next.invariant.1)
