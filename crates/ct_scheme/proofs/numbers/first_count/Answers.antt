-- The product of the two numbers of matchings is the count of the sum, which is below 2^47.
use Rattle.std.proofs.Common.{ap₂, ◌∙◌, ◌*◌, arith}
use Rattle.ct_scheme.proofs.JohnsonSums.{IsWithin, count-is, count-small}
use Rattle.ct_scheme.proofs.numbers.first_count.Goals as goal

pub overflow_mul-result : goal.overflow_mul-result
overflow_mul-result c =
    let r = c.requires in
    let within : IsWithin c.args.n c.args.w c.args.k c.args.i = record { length = r.length; weight = r.weight; row = r.row; index = r.index } in
    let small = count-small c.args.n c.args.w c.args.k c.args.i c.args.j within r.first in
    let same = count-is c.args.n c.args.w c.args.k c.args.i c.args.j in
    rw (c.matchings.ensures, c.matchings-2.ensures) (record { fits = omega arith })

pub returns : goal.returns
returns c =
    ap₂ (λ a b. a * b) c.matchings.ensures c.matchings-2.ensures
    ∙ count-is c.args.n c.args.w c.args.k c.args.i c.args.j
