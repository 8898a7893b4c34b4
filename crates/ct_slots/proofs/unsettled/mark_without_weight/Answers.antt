use Rattle.std.proofs.Common.{ℕ, ◌≤◌, arith}
use Rattle.ct_words.specs.Entry.{unrestricted}
use Rattle.ct_slots.specs.Worklist.{WorkValue}
use Rattle.ct_slots.specs.Inside.Marked.{AreMarkedWithoutWeight}
use Rattle.ct_slots.proofs.MarkedLemmas.{one_more, still_marked}
use Rattle.ct_slots.proofs.unsettled.mark_without_weight.Goals as goal

pub loop-n-init : goal.loop-n-init
loop-n-init c = record {
  from = omega arith;
  marked = λ n below some. absurd (omega arith);
  kept = λ t marked. marked;
}

pub loop-n-preserved : goal.loop-n-preserved
loop-n-preserved c =
    let P : WorkValue → ℕ → Type 0 = λ work n. 1 ≤ n → AreMarkedWithoutWeight c.args.bounds.now work c.args.side n in
    let kept = c.mark_distances.ensures.kept in
    record {
      from = omega arith;
      marked =
          one_more (P c.loop-n.work) (P c.mark_distances.new.work) c.loop-n.n
          (λ n before some d far near.
          still_marked c.args.bounds.now c.loop-n.work c.mark_distances.new.work (c.args.side, unrestricted n d) kept (before some d far near))
          c.loop-n.invariant.marked (λ some. c.in_ok-mark_distances.ensures.marked);
      kept = λ t marked. kept t (c.loop-n.invariant.kept t marked);
    }

pub returns-clause-marked : goal.returns-clause-marked
returns-clause-marked c = λ n some few. c.loop-n.invariant.marked n (omega (arith, c.loop-n-test.false)) some
