use Rattle.ct_slots.specs.Number.{bound_of}
use Rattle.ct_offers.specs.Inside.Pulled.{IsPulled}
use Rattle.ct_offers.proofs.PulledLemmas.{AreAskedAbove, IsNext, left_to}
use Rattle.ct_offers.proofs.pulling.ask_each_support.Given as goal

-- the places of the entry that are still to be asked for are the next one and those before it
abbrev pub invariant-loop-next : goal.invariant-loop-next
invariant-loop-next l = IsPulled l.supports (bound_of l.bounds) (l.side, l.entry) l.fn.best l.best
    × AreAskedAbove l.supports (bound_of l.bounds) (l.side, l.entry) l.places l.best.value l.next
    × IsNext l.places l.entry l.next

abbrev pub decreases-loop-next : goal.decreases-loop-next
decreases-loop-next l = left_to l.next
