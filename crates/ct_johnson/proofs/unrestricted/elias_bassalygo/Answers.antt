-- The average is at least 1, and bounds the codes.
use Rattle.std.proofs.Common.{arith}
use Rattle.std.specs.Prelude.{None}
use Rattle.ct_johnson.specs.Bounds.{average}
use Rattle.ct_johnson.proofs.Capped.{capped_bound}
use Rattle.ct_johnson.proofs.Averages.{one-le-average, average_sound}
use Rattle.ct_johnson.proofs.unrestricted.elias_bassalygo.Goals as goal

pub returns-clause-range : goal.returns-clause-range
returns-clause-range c =
    let some = one-le-average c.args.n c.args.w c.args.u c.requires.length.0 c.requires.weight c.requires.premise.0 in
    let bound = c.average.ensures in
    let is = c.capped.ensures in
    omega arith

pub returns-clause-sound : goal.returns-clause-sound
returns-clause-sound c = λ d far even premise.
    let n = c.args.n in
    let w = c.args.w in
    let u = c.args.u in
    rw (c.capped.ensures, c.average.ensures)
    (capped_bound n d (average n w u) None c.requires.length.1
    (average_sound n d w u c.requires.length.0 far even c.requires.weight premise))
