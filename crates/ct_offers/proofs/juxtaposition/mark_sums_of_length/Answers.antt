use Rattle.std.proofs.Common.{◌+◌, ◌-◌, refl, arith}
use Rattle.ct_offers.proofs.JuxtapositionLemmas.{tested_step, tested_distances, end_enough}
use Rattle.ct_offers.proofs.juxtaposition.mark_sums_of_length.Goals as goal

pub loop-d-preserved : goal.loop-d-preserved
loop-d-preserved c =
    let keeps = c.in_ok-mark_sum.ensures.kept in (
      λ t entry marked. keeps t entry (c.loop-d.invariant.0 t entry marked),
      tested_step c.args.bounds.now c.loop-d.work c.mark_sum.new.work c.args.entry c.args.n (c.args.entry.d + 3) c.loop-d.d keeps
          c.loop-d.invariant.1 (c.in_ok-mark_sum.ensures.tested),
    )

pub returns-clause-tested : goal.returns-clause-tested
returns-clause-tested c =
    tested_distances c.args.bounds.now c.loop-d.work c.args.entry c.args.n c.loop-d.d c.requires.true_bounds
    (end_enough c.args.entry.d (c.args.n - c.args.entry.n) c.min-end.result (c.min-end.result + 1) c.loop-d.d (omega (arith, c.min-end.ensures)) refl (omega (arith, c.loop-d-test.false)))
    c.loop-d.invariant.1

pub loop-d-init : goal.loop-d-init
loop-d-init c = (λ t entry marked. marked, λ d from below. absurd (omega (arith, from, below)))

pub mark_sum-requires-clause-entry : goal.mark_sum-requires-clause-entry
mark_sum-requires-clause-entry c = c.requires.entry

pub mark_sum-requires-clause-plain : goal.mark_sum-requires-clause-plain
mark_sum-requires-clause-plain c = c.requires.plain

pub mark_sum-requires-clause-true_bounds : goal.mark_sum-requires-clause-true_bounds
mark_sum-requires-clause-true_bounds c = c.requires.true_bounds

pub returns-clause-kept : goal.returns-clause-kept
returns-clause-kept c = c.loop-d.invariant.0

pub mark_sum-requires-clause-n : goal.mark_sum-requires-clause-n
mark_sum-requires-clause-n c = omega (arith, c.requires.from)

pub mark_sum-requires-clause-own : goal.mark_sum-requires-clause-own
mark_sum-requires-clause-own c = c.plain_bound-own.ensures

pub mark_sum-requires-clause-d : goal.mark_sum-requires-clause-d
mark_sum-requires-clause-d c = omega (arith, c.loop-d.auto.d)

pub returns-in_err-mark_sum-clause-kept : goal.returns-in_err-mark_sum-clause-kept
returns-in_err-mark_sum-clause-kept c = λ t entry marked. c.in_err-mark_sum.ensures.kept t entry (c.loop-d.invariant.0 t entry marked)
