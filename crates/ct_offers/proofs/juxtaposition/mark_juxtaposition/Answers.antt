use Rattle.std.proofs.Common.{◌+◌, arith}
use Rattle.ct_offers.proofs.JuxtapositionLemmas.{tested_none, tested_more_length, tested_all}
use Rattle.ct_offers.proofs.juxtaposition.mark_juxtaposition.Goals as goal

pub returns-then-entry-clause-tested : goal.returns-then-entry-clause-tested
returns-then-entry-clause-tested c =
    tested_none c.args.bounds.now c.args.work.now c.args.entry c.requires.true_bounds (omega (arith, c.if-entry.true))

pub loop-n-preserved : goal.loop-n-preserved
loop-n-preserved c =
    let keeps = c.in_ok-mark_sums_of_length.ensures.kept in (
      λ t entry marked. keeps t entry (c.loop-n.invariant.0 t entry marked),
      tested_more_length c.args.bounds.now c.loop-n.work c.mark_sums_of_length.new.work c.args.entry (c.args.entry.n + 3) c.loop-n.n keeps
          c.loop-n.invariant.1 (c.in_ok-mark_sums_of_length.ensures.tested),
    )

pub returns-clause-tested : goal.returns-clause-tested
returns-clause-tested c =
    tested_all c.args.bounds.now c.loop-n.work c.args.entry c.loop-n.n c.requires.true_bounds (omega (arith, c.loop-n-test.false))
    c.loop-n.invariant.1

pub loop-n-init : goal.loop-n-init
loop-n-init c = (λ t entry marked. marked, λ n from below. absurd (omega (arith, from, below)))

pub returns-clause-kept : goal.returns-clause-kept
returns-clause-kept c = c.loop-n.invariant.0

pub returns-in_err-mark_sums_of_length-clause-kept : goal.returns-in_err-mark_sums_of_length-clause-kept
returns-in_err-mark_sums_of_length-clause-kept c = λ t entry marked. c.in_err-mark_sums_of_length.ensures.kept t entry (c.loop-n.invariant.0 t entry marked)

pub mark_sums_of_length-requires-clause-entry : goal.mark_sums_of_length-requires-clause-entry
mark_sums_of_length-requires-clause-entry c = c.requires.entry

pub mark_sums_of_length-requires-clause-plain : goal.mark_sums_of_length-requires-clause-plain
mark_sums_of_length-requires-clause-plain c = c.requires.plain

pub mark_sums_of_length-requires-clause-true_bounds : goal.mark_sums_of_length-requires-clause-true_bounds
mark_sums_of_length-requires-clause-true_bounds c = c.requires.true_bounds
