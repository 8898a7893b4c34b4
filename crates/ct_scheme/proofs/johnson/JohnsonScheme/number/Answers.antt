-- The Johnson numbers of the table are small.
use Rattle.std.proofs.Common.{ap, arith}
use Rattle.std.specs.Prelude.{unsigned_abs}
use Rattle.std.proofs.lemmas.Int.{ints}
use Rattle.ct_scheme.specs.Johnson.{johnson-small}
use Rattle.ct_scheme.proofs.johnson.JohnsonScheme.number.Goals as goal

pub returns-clause-small : goal.returns-clause-small
returns-clause-small c =
    let s = c.args.self.now in
    let small = johnson-small s.n s.w c.args.k c.args.i s.length_in_range.1 s.weight_in_range c.requires.row c.requires.index in
    let value = ap unsigned_abs c.johnson_number.ensures in
    omega (arith, ints)
