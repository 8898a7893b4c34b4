use Rattle.std.proofs.Common.{ℕ, ◌<◌, Option, Some, subst, sym, inl, ◌∙◌}
use Rattle.std.proofs.lemmas.Option.{slice_get_within}
use Rattle.ct_offers.proofs.MarkingLemmas.{keeps-trans}
use Rattle.ct_offers.proofs.PulledLemmas.{first_next, next_of, left_to, fewer_left}
use Rattle.ct_offers.proofs.DualLemmas.{AreTestedAbove, none_outside, tested_step, tested_all}
use Rattle.ct_offers.proofs.marking.mark_by_duals.Goals as goal

pub returns-then-not-in_table-clause-tested : goal.returns-then-not-in_table-clause-tested
returns-then-not-in_table-clause-tested c =
    none_outside c.args.supports.now c.args.bounds.now c.args.work.now c.args.from c.args.entry (sym c.in_table.ensures ∙ c.if-not-in_table.true)

pub loop-next-init : goal.loop-next-init
loop-next-init c = (
  λ t entry marked. marked,
  λ place at. inl (c.last-next.ensures.last place at),
  first_next c.args.places.now c.args.entry c.last-next.result c.last-next.ensures.place,
)

pub before-next-requires : goal.before-next-requires
before-next-requires c =
    slice_get_within c.args.places.now c.in-Some.place (Some c.args.entry) (c.loop-next.invariant.2 c.in-Some.place c.in-Some.is)

pub loop-next-smaller : goal.loop-next-smaller
loop-next-smaller c =
    let at = c.loop-next.invariant.2 c.in-Some.place c.in-Some.is in
    subst (λ (o : Option ℕ). left_to c.before-next.result < left_to o) (sym c.in-Some.is)
    (fewer_left c.args.places.now c.args.entry c.before-next.result c.in-Some.place (c.before-next.ensures.place c.args.entry at))

pub loop-next-preserved : goal.loop-next-preserved
loop-next-preserved c =
    let supports = c.args.supports.now in
    let bounds = c.args.bounds.now in
    let e = c.args.entry in
    let entries = c.args.places.now in
    let old = c.loop-next.work in
    let new = c.mark_by_dual.new.work in
    let place = c.in-Some.place in
    let keeps = c.in_ok-mark_by_dual.ensures.kept in
    let at = c.loop-next.invariant.2 place c.in-Some.is in (
      keeps-trans c.args.work.now old new c.loop-next.invariant.0 keeps,
      tested_step supports bounds old new c.args.from e entries place c.before-next.result keeps
          (subst (λ (o : Option ℕ). AreTestedAbove supports bounds old c.args.from e entries o) c.in-Some.is c.loop-next.invariant.1) at
          c.in_ok-mark_by_dual.ensures.tested
          (λ g other here there below. c.before-next.ensures.last g other here there below),
      next_of entries e c.before-next.result place (c.before-next.ensures.place e at),
    )

pub returns-clause-tested : goal.returns-clause-tested
returns-clause-tested c =
    tested_all c.args.supports.now c.args.bounds.now c.loop-next.work c.args.from c.args.entry c.args.places.now c.requires.places
    (subst (λ (o : Option ℕ). AreTestedAbove c.args.supports.now c.args.bounds.now c.loop-next.work c.args.from c.args.entry c.args.places.now o)
    c.in_default.is c.loop-next.invariant.1)

pub mark_by_dual-requires : goal.mark_by_dual-requires
mark_by_dual-requires c = record { stand = c.requires.stand; true_bounds = c.requires.true_bounds }

pub returns-clause-kept : goal.returns-clause-kept
returns-clause-kept c = c.loop-next.invariant.0

pub returns-in_err-mark_by_dual-clause-kept : goal.returns-in_err-mark_by_dual-clause-kept
returns-in_err-mark_by_dual-clause-kept c =
    keeps-trans c.args.work.now c.loop-next.work c.mark_by_dual.new.work c.loop-next.invariant.0 c.in_err-mark_by_dual.ensures.kept
