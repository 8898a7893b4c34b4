use Rattle.std.proofs.Common.{ℕ, subst, arith}
use Rattle.ct_words.specs.Entry.{unrestricted}
use Rattle.ct_words.proofs.EntryLemmas.{entry_from_limits}
use Rattle.ct_slots.specs.Worklist.{WorkValue, IsMarkedOrSettled}
use Rattle.ct_slots.specs.Inside.Marked.{distance_at}
use Rattle.ct_slots.proofs.MarkedLemmas.{one_more, still_marked, all_distances}
use Rattle.ct_slots.proofs.unsettled.mark_distances.Goals as goal

pub mark_unless_settled-requires : goal.mark_unless_settled-requires
mark_unless_settled-requires c =
    entry_from_limits (unrestricted c.args.n c.distance_at-d.result) c.requires.some c.requires.short c.distance_at-d.ensures.far
    c.distance_at-d.ensures.near tt

pub loop-k-preserved : goal.loop-k-preserved
loop-k-preserved c =
    let P : WorkValue → ℕ → Type 0 = λ work d. IsMarkedOrSettled c.args.bounds.now work (c.args.side, unrestricted c.args.n d) in
    let kept = c.mark_unless_settled.ensures.kept in
    record {
      marked =
          one_more (λ k. P c.loop-k.work (distance_at c.args.side k)) (λ k. P c.mark_unless_settled.new.work (distance_at c.args.side k)) c.loop-k.k
          (λ k. still_marked c.args.bounds.now c.loop-k.work c.mark_unless_settled.new.work
          (c.args.side, unrestricted c.args.n (distance_at c.args.side k)) kept)
          c.loop-k.invariant.marked
          (subst (P c.mark_unless_settled.new.work) c.distance_at-d.ensures.distance c.in_ok-mark_unless_settled.ensures.marked);
      kept = λ t marked. kept t (c.loop-k.invariant.kept t marked);
    }

pub returns-clause-marked : goal.returns-clause-marked
returns-clause-marked c =
    all_distances c.args.side (λ d. IsMarkedOrSettled c.args.bounds.now c.loop-k.work (c.args.side, unrestricted c.args.n d))
    (λ k below. c.loop-k.invariant.marked k (omega (arith, c.loop-k-test.false)))
