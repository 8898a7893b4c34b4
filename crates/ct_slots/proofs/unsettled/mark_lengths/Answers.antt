use Rattle.std.proofs.Common.{ℕ, ◌≤◌, arith}
use Rattle.ct_words.specs.Entry.{constant_weight}
use Rattle.ct_slots.specs.Worklist.{WorkValue, IsMarkedOrSettled}
use Rattle.ct_slots.proofs.MarkedLemmas.{one_more, still_marked}
use Rattle.ct_slots.proofs.unsettled.mark_lengths.Goals as goal

pub loop-n-init : goal.loop-n-init
loop-n-init c = record {
  from = omega arith;
  marked = λ n below some. absurd (omega arith);
  kept = λ t marked. marked;
}

pub loop-n-preserved : goal.loop-n-preserved
loop-n-preserved c =
    let P : WorkValue → ℕ → Type 0 =
    λ work n. 1 ≤ n → (w : ℕ) → w ≤ n → IsMarkedOrSettled c.args.bounds.now work (c.args.side, constant_weight n c.args.d w) in
    let kept = c.mark_weights.ensures.kept in
    record {
      from = omega arith;
      marked =
          one_more (P c.loop-n.work) (P c.mark_weights.new.work) c.loop-n.n
          (λ n before some w fits.
          still_marked c.args.bounds.now c.loop-n.work c.mark_weights.new.work (c.args.side, constant_weight n c.args.d w) kept (before some w fits))
          c.loop-n.invariant.marked (λ some w fits. c.in_ok-mark_weights.ensures.marked w fits);
      kept = λ t marked. kept t (c.loop-n.invariant.kept t marked);
    }

pub returns-clause-marked : goal.returns-clause-marked
returns-clause-marked c = λ n w some few fits. c.loop-n.invariant.marked n (omega (arith, c.loop-n-test.false)) some w fits
