-- The Krawtchouk numbers of the table are small.
use Rattle.std.proofs.Common.{ap, arith}
use Rattle.std.specs.Prelude.{unsigned_abs}
use Rattle.std.proofs.lemmas.Int.{ints}
use Rattle.ct_krawtchouk.specs.Hamming.{krawtchouk-small}
use Rattle.ct_krawtchouk.proofs.hamming.HammingScheme.number.Goals as goal

pub returns-clause-small : goal.returns-clause-small
returns-clause-small c =
    let n = c.args.self.now.n in
    let small = krawtchouk-small n c.args.k c.args.i c.requires.index c.args.self.now.in_range.1 in
    let value = ap unsigned_abs c.krawtchouk_number.ensures in
    omega (arith, ints)
