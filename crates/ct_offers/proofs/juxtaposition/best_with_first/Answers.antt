use Rattle.std.proofs.Common.{◌≡◌, ◌+◌, ◌*◌, ◌/◌, ◌≤◌, [], refl, sym, subst, arith, inl, inr}
use Rattle.std.proofs.lemmas.Bool.{cases_eq, cases_lt}
use Rattle.ct_words.specs.declared.claim.Side.TheVariants.{Lower}
use Rattle.ct_slots.specs.Number.{bound_of}
use Rattle.ct_offers.proofs.PulledLemmas.{IsPulled-trans, IsPulled-refl}
use Rattle.ct_offers.proofs.JuxtapositionLemmas.{IsSum, least_of, sum_here, sum_offer, sum_side, first_enough}
use Rattle.ct_offers.proofs.juxtaposition.best_with_first.Goals as goal

pub loop-c-preserved : goal.loop-c-preserved
loop-c-preserved c =
    let f = bound_of c.args.bounds.now in
    let e = c.args.entry in
    let m = c.args.m in
    let k = c.loop-c.c in
    let old = c.loop-c.best in
    let new = c.consider.new.self in
    let below = c.loop-c-test.true in
    let is : IsSum e.n e.d m k =
    sum_here e m k c.requires.entry c.requires.from c.requires.to (omega (arith, c.loop-c.auto.c, c.max-from.ensures))
    (omega (arith, below, c.min-end.ensures)) in
    let same : c.min-value.result ≡ least_of f e.n e.d m k =
    omega (arith, c.min-value.ensures, c.plain_bound.ensures, c.plain_bound-in-loop-c.ensures) in
    let worse : c.min-value.result ≤ new.value = c.consider.ensures.within c.min-value.result refl in (
      λ supports. IsPulled-trans supports f (Lower, e) c.args.best.now old new (c.loop-c.invariant.0 supports)
          (c.consider.ensures.pulled supports f e (sum_side m k)
          (sum_offer supports f e m k c.min-value.result c.requires.true_bounds c.requires.entry c.requires.plain is same)),
      λ k' from end. elim (cases_eq k' k) [
        | inl here ↦ subst (λ i. least_of f e.n e.d m i ≤ new.value) (sym here) (omega (arith, same, worse))
        | inr other ↦
            let before = c.loop-c.invariant.1 k' from (omega arith) in
            let pulled = c.consider.ensures.pulled [] f e (sum_side m k)
            (sum_offer [] f e m k c.min-value.result c.requires.true_bounds c.requires.entry c.requires.plain is same) in
            let better = pulled.no_worse in
            omega (arith, before, better)
      ],
    )

pub returns-clause-within : goal.returns-clause-within
returns-clause-within c =
    let f = bound_of c.args.bounds.now in
    let e = c.args.entry in
    λ supports.
    let better = (c.loop-c.invariant.0 supports).no_worse in
    let low = c.saturating_sub.ensures in
    let from = c.max-from.ensures in
    first_enough supports f c.args.m e c.loop-c.best.value c.max-from.result c.min-end.result c.requires.true_bounds
    (let some = c.requires.some in omega (arith, better, some))
    (λ near. let two = c.requires.two near in omega (arith, better, two))
    (omega (arith, low, from))
    (elim (cases_lt c.min-end.result (2 * c.args.m / 3 + 1)) [
      | inl below ↦ inr (omega (arith, c.min-end.ensures, below))
      | inr above ↦ inl (omega (arith, above))
    ])
    (λ k low_k below. c.loop-c.invariant.1 k low_k (omega (arith, c.loop-c-test.false, below)))

pub loop-c-init : goal.loop-c-init
loop-c-init c = (
  λ supports. IsPulled-refl supports (bound_of c.args.bounds.now) (Lower, c.args.entry) c.args.best.now,
  λ k from below. absurd (omega (arith, from, below)),
)

pub returns-clause-pulled : goal.returns-clause-pulled
returns-clause-pulled c = c.loop-c.invariant.0
