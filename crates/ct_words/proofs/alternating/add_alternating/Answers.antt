-- The sign is that of the parity of j.
use Rattle.std.proofs.Common.{arith, ◌≡◌, ◌%◌}
use Rattle.std.proofs.lemmas.Int.{ints}
use Rattle.ct_words.proofs.Counting.Alternating.{signed-even, signed-odd}
use Rattle.ct_words.proofs.alternating.add_alternating.Goals as goal

pub returns-then-j-eq0 : goal.returns-then-j-eq0
returns-then-j-eq0 c =
    let term = signed-even c.args.j c.args.count c.if-j-eq0.true in
    omega (arith, ints)

pub returns-else-j-eq0 : goal.returns-else-j-eq0
returns-else-j-eq0 c =
    let odd : c.args.j % 2 ≡ 1 = omega arith in
    let term = signed-odd c.args.j c.args.count odd in
    omega (arith, ints)
