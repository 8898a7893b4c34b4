use Rattle.std.proofs.Common.{◌≡◌, ◌<◌, ◌^◌}
use Rattle.ct_sample.specs.Random.{seed}
use Rattle.ct_sample.specs.Run.{run_to}
use Rattle.ct_sample.proofs.run.Run.obey.Given as goal

abbrev pub invariant-loop-before : goal.invariant-loop-before
invariant-loop-before l = (l.self ≡ run_to l.number l.before) × (l.seed ≡ seed l.number l.before) × (l.seed < 2 ^ 32)
