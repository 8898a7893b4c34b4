-- The number of matchings is below 2^47.
use Rattle.std.proofs.Common.{arith}
use Rattle.ct_scheme.proofs.JohnsonSums.{matchings-fit}
use Rattle.ct_scheme.proofs.numbers.matchings.Goals as goal

pub overflow_mul-result : goal.overflow_mul-result
overflow_mul-result c =
    let small = matchings-fit c.args.a c.args.b c.args.k c.requires.things c.requires.pairs in
    rw (c.binomial.ensures, c.binomial-2.ensures) (record { fits = omega arith })

pub overflow_mul-result-2 : goal.overflow_mul-result-2
overflow_mul-result-2 c =
    let small = matchings-fit c.args.a c.args.b c.args.k c.requires.things c.requires.pairs in
    rw (c.binomial.ensures, c.binomial-2.ensures, c.factorial.ensures) (record { fits = omega arith })
