use Rattle.std.proofs.Common.{ℕ, arith}
use Rattle.ct_words.specs.Entry.{constant_weight}
use Rattle.ct_words.proofs.EntryLemmas.{entry_from_limits}
use Rattle.ct_slots.specs.Worklist.{WorkValue, IsMarkedOrSettled}
use Rattle.ct_slots.proofs.MarkedLemmas.{one_more, still_marked}
use Rattle.ct_slots.proofs.unsettled.mark_weights.Goals as goal

pub mark_unless_settled-requires : goal.mark_unless_settled-requires
mark_unless_settled-requires c =
    entry_from_limits (constant_weight c.args.n c.args.d c.loop-w.w) c.requires.some c.requires.short (omega (arith, c.requires.far)) c.requires.near
    (c.requires.even, c.requires.far, omega arith)

pub loop-w-preserved : goal.loop-w-preserved
loop-w-preserved c =
    let P : WorkValue → ℕ → Type 0 = λ work w. IsMarkedOrSettled c.args.bounds.now work (c.args.side, constant_weight c.args.n c.args.d w) in
    let kept = c.mark_unless_settled.ensures.kept in
    record {
      marked =
          one_more (P c.loop-w.work) (P c.mark_unless_settled.new.work) c.loop-w.w
          (λ w. still_marked c.args.bounds.now c.loop-w.work c.mark_unless_settled.new.work (c.args.side, constant_weight c.args.n c.args.d w) kept)
          c.loop-w.invariant.marked c.in_ok-mark_unless_settled.ensures.marked;
      kept = λ t marked. kept t (c.loop-w.invariant.kept t marked);
    }

pub returns-clause-marked : goal.returns-clause-marked
returns-clause-marked c = λ w fits. c.loop-w.invariant.marked w (omega (arith, c.loop-w-test.false))
