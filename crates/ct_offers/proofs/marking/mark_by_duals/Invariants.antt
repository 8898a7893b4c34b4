use Rattle.ct_offers.specs.Inside.Marking.{KeepsMarks}
use Rattle.ct_offers.proofs.PulledLemmas.{IsNext, left_to}
use Rattle.ct_offers.proofs.DualLemmas.{AreTestedAbove}
use Rattle.ct_offers.proofs.marking.mark_by_duals.Given as goal

-- the places of the entry that are still to be tested are the next one and those before it
abbrev pub invariant-loop-next : goal.invariant-loop-next
invariant-loop-next l = KeepsMarks l.fn.work l.work
    × AreTestedAbove l.supports l.bounds l.work l.from l.entry l.places l.next
    × IsNext l.places l.entry l.next

abbrev pub decreases-loop-next : goal.decreases-loop-next
decreases-loop-next l = left_to l.next
