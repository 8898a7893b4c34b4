use Rattle.std.proofs.Common.{[], subst, sym, arith, inl, inr}
use Rattle.std.proofs.lemmas.Bool.{cases_eq}
use Rattle.ct_words.specs.declared.claim.Side.TheVariants.{Lower}
use Rattle.ct_rules.specs.declared.rule.Rule.TheVariants.{L11}
use Rattle.ct_slots.specs.Number.{bound_of}
use Rattle.ct_offers.specs.Offers.{IsWithin}
use Rattle.ct_offers.proofs.PulledLemmas.{IsPulled-refl, IsPulled-trans, within_better}
use Rattle.ct_offers.proofs.JuxtapositionLemmas.{halves_enough, wide_within}
use Rattle.ct_offers.proofs.juxtaposition.best_juxtaposition.Goals as goal

pub best_with_first-requires-clause-some : goal.best_with_first-requires-clause-some
best_with_first-requires-clause-some c =
    let better = (c.loop-m.invariant.0 []).no_worse in
    let some = c.requires.some in
    omega (arith, better, some)

pub best_with_first-requires-clause-two : goal.best_with_first-requires-clause-two
best_with_first-requires-clause-two c = λ near.
    let better = (c.loop-m.invariant.0 []).no_worse in
    let two = c.requires.two near in
    omega (arith, better, two)

pub loop-m-preserved : goal.loop-m-preserved
loop-m-preserved c =
    let f = bound_of c.args.bounds.now in
    let e = c.args.entry in
    let old = c.loop-m.best in
    let new = c.best_with_first.new.best in (
      λ supports. IsPulled-trans supports f (Lower, e) c.args.best.now old new (c.loop-m.invariant.0 supports) (c.best_with_first.ensures.pulled supports),
      λ supports m k from below. elim (cases_eq m c.loop-m.m) [
        | inl here ↦ subst (λ i. IsWithin supports f (Lower, e) new.value (L11 i k)) (sym here) (c.best_with_first.ensures.within supports k)
        | inr other ↦
            within_better supports f (Lower, e) old.value new.value (L11 m k) (c.best_with_first.ensures.pulled supports).no_worse
            (c.loop-m.invariant.1 supports m k from (omega arith))
      ],
    )

pub returns-clause-within : goal.returns-clause-within
returns-clause-within c =
    let f = bound_of c.args.bounds.now in
    let e = c.args.entry in
    λ supports.
    let better = (c.loop-m.invariant.0 supports).no_worse in
    let some = c.requires.some in
    halves_enough supports f e c.loop-m.best.value c.loop-m.m c.requires.true_bounds c.requires.entry (omega (arith, better, some))
    (omega (arith, c.loop-m-test.false)) (c.loop-m.invariant.1 supports)

pub returns-then-entry-clause-pulled : goal.returns-then-entry-clause-pulled
returns-then-entry-clause-pulled c = λ supports.
    IsPulled-refl supports (bound_of c.args.bounds.now) (Lower, c.args.entry) c.args.best.now

pub returns-then-entry-clause-within : goal.returns-then-entry-clause-within
returns-then-entry-clause-within c = λ supports.
    wide_within supports (bound_of c.args.bounds.now) c.args.entry c.args.best.now.value c.requires.true_bounds c.requires.some c.requires.two
    (omega (arith, c.if-entry.true))

pub loop-m-init : goal.loop-m-init
loop-m-init c = (
  λ supports. IsPulled-refl supports (bound_of c.args.bounds.now) (Lower, c.args.entry) c.args.best.now,
  λ supports m k from below. absurd (omega (arith, from, below)),
)

pub returns-clause-pulled : goal.returns-clause-pulled
returns-clause-pulled c = c.loop-m.invariant.0

pub best_with_first-requires-clause-entry : goal.best_with_first-requires-clause-entry
best_with_first-requires-clause-entry c = c.requires.entry

pub best_with_first-requires-clause-plain : goal.best_with_first-requires-clause-plain
best_with_first-requires-clause-plain c = c.requires.plain

pub best_with_first-requires-clause-true_bounds : goal.best_with_first-requires-clause-true_bounds
best_with_first-requires-clause-true_bounds c = c.requires.true_bounds
