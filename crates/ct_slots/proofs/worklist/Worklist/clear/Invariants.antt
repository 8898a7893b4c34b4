use Rattle.ct_slots.specs.Worklist.{waiting}
use Rattle.ct_slots.proofs.worklist.Worklist.clear.Given as goal

abbrev pub decreases-loop : goal.decreases-loop
decreases-loop l = waiting l.self
