use Rattle.std.proofs.Common.{subst}
use Rattle.ct_slots.specs.Worklist.{IsSoundWork}
use Rattle.ct_slots.proofs.WorklistLemmas.{waiting-bound}
use Rattle.ct_slots.proofs.worklist.Worklist.waits_for_few.Goals as goal

pub returns : goal.returns
returns c = waiting-bound c.args.self.now (subst IsSoundWork c.self.view_is c.self.invariant)
