use Rattle.ct_offers.specs.Inside.Marking.{KeepsMarks, AreTestedAtWeights}
use Rattle.ct_offers.proofs.marking.mark_each_weight.Given as goal

-- what was marked still is, and the weights so far were tested
abbrev pub invariant-loop-w : goal.invariant-loop-w
invariant-loop-w l = KeepsMarks l.fn.work l.work × AreTestedAtWeights l.supports l.bounds l.work l.entry l.w
