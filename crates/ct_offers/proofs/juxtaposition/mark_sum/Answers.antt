use Rattle.std.proofs.Common.{arith}
use Rattle.std.proofs.lemmas.Result.{on_ok_weaker}
use Rattle.ct_offers.proofs.JuxtapositionLemmas.{tested_marked, tested_no_better}
use Rattle.ct_offers.proofs.juxtaposition.mark_sum.Goals as goal

pub returns-then-is_marked-clause-tested : goal.returns-then-is_marked-clause-tested
returns-then-is_marked-clause-tested c =
    tested_marked c.args.bounds.now c.args.work.now c.args.entry c.args.n c.args.d (c.is_marked.ensures.0 c.if-is_marked.true)

pub returns-then-min-plain_bound-clause-tested : goal.returns-then-min-plain_bound-clause-tested
returns-then-min-plain_bound-clause-tested c =
    let own = c.requires.own in
    let other = c.plain_bound-other.ensures in
    let there = c.plain_bound.ensures in
    let least = c.min.ensures in
    let no_more = c.if-min-plain_bound.true in
    tested_no_better c.args.bounds.now c.args.work.now c.args.entry c.args.n c.args.d c.requires.true_bounds
    (omega (arith, own, other, there, least, no_more))

pub returns-clause-tested : goal.returns-clause-tested
returns-clause-tested c =
    on_ok_weaker c.mark.result (tested_marked c.args.bounds.now c.mark.new.self c.args.entry c.args.n c.args.d) c.mark.ensures.marked

pub returns-clause-kept : goal.returns-clause-kept
returns-clause-kept c = λ t entry marked. c.mark.ensures.kept t marked
