use Rattle.std.proofs.Common.{◌+◌, ◌-◌, ◌*◌, cond}
use Rattle.ct_io.specs.declared.TheConstants.{MAX_INPUT}
use Rattle.ct_io.proofs.IntakeLemmas.{HasGathered}
use Rattle.ct_io.proofs.intake.Intake.gather_line.Given as goal

abbrev pub invariant-loop-length : goal.invariant-loop-length
invariant-loop-length g l = HasGathered g.S.Source.left g.S.Source.faults l.initial.self l.self l.initial.source l.source

abbrev pub decreases-loop-length : goal.decreases-loop-length
decreases-loop-length g l = 2 * (MAX_INPUT - l.self.taken) + cond l.self.ended 0 1
