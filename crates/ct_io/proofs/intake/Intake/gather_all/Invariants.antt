use Rattle.std.proofs.Common.{◌-◌}
use Rattle.ct_io.specs.declared.TheConstants.{MAX_INPUT}
use Rattle.ct_io.proofs.InputLemmas.{HasGatheredAll}
use Rattle.ct_io.proofs.intake.Intake.gather_all.Given as goal

abbrev pub invariant-loop-count : goal.invariant-loop-count
invariant-loop-count g l = HasGatheredAll (g.S.Source.left l.initial.source) (g.S.Source.left l.source) (g.S.Source.faults l.initial.source) (g.S.Source.faults l.source)
    l.self.held.bytes l.self.taken

abbrev pub decreases-loop-count : goal.decreases-loop-count
decreases-loop-count g l = MAX_INPUT - l.self.taken
