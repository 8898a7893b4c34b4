use Rattle.std.proofs.Common.{ℕ, subst, arith}
use Rattle.ct_words.specs.Entry.{constant_weight}
use Rattle.ct_slots.specs.Worklist.{WorkValue}
use Rattle.ct_slots.specs.Inside.Marked.{even_distance_at, AreMarkedWithWeight}
use Rattle.ct_slots.proofs.MarkedLemmas.{one_more, still_marked, all_even_distances}
use Rattle.ct_slots.proofs.unsettled.mark_with_weight.Goals as goal

pub loop-k-preserved : goal.loop-k-preserved
loop-k-preserved c =
    let P : WorkValue → ℕ → Type 0 = λ work k. AreMarkedWithWeight c.args.bounds.now work c.args.side (even_distance_at c.args.side k) in
    let kept = c.mark_lengths.ensures.kept in
    record {
      marked =
          one_more (P c.loop-k.work) (P c.mark_lengths.new.work) c.loop-k.k
          (λ k before n w some few fits.
          still_marked c.args.bounds.now c.loop-k.work c.mark_lengths.new.work (c.args.side, constant_weight n (even_distance_at c.args.side k) w) kept
          (before n w some few fits))
          c.loop-k.invariant.marked
          (subst (AreMarkedWithWeight c.args.bounds.now c.mark_lengths.new.work c.args.side) c.even_distance_at.ensures.distance
          c.in_ok-mark_lengths.ensures.marked);
      kept = λ t marked. kept t (c.loop-k.invariant.kept t marked);
    }

pub returns-clause-marked : goal.returns-clause-marked
returns-clause-marked c =
    all_even_distances c.args.side (AreMarkedWithWeight c.args.bounds.now c.loop-k.work c.args.side)
    (λ k below. c.loop-k.invariant.marked k (omega (arith, c.loop-k-test.false)))
