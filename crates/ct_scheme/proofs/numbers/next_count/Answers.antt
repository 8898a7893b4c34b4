-- The product fits, and the divisor times the next term is that product.
use Rattle.std.proofs.Common.{suc, ◌+◌, ◌-◌, ◌*◌, ◌≤◌, ◌^◌, ap, ap₂, sym, ◌∙◌, arith}
use Rattle.std.proofs.Math.Nat.{mul-le-mul}
use Rattle.ct_scheme.specs.Numbers.{term_count}
use Rattle.ct_scheme.proofs.JohnsonSums.{IsWithin, count-small, count-next, product-small, quotient_of_multiple}
use Rattle.ct_scheme.proofs.numbers.next_count.Goals as goal

pub overflow_mul-result : goal.overflow_mul-result
overflow_mul-result c =
    let r = c.requires in
    let length = r.length in
    let weight = r.weight in
    let row = r.row in
    let index = r.index in
    let last = r.last in
    let within : IsWithin c.args.n c.args.w c.args.k c.args.i = record { length = r.length; weight = r.weight; row = r.row; index = r.index } in
    let small = count-small c.args.n c.args.w c.args.k c.args.i c.args.j within (omega arith) in
    let factor = product-small (c.args.i - c.args.j) (c.args.i - c.args.j) (c.args.k - c.args.j) (omega arith) (omega arith) (omega arith) in
    let size = factor.1 in
    let count_is = r.count in
    let factor_is = c.product-factor.ensures in
    let first : c.args.count ≤ 2 ^ 47 = omega arith in
    let second : c.product-factor.result ≤ 2 ^ 15 = omega arith in
    let most = mul-le-mul first second in
    record { fits = omega arith }

pub returns : goal.returns
returns c =
    let r = c.requires in
    let n = c.args.n in
    let w = c.args.w in
    let k = c.args.k in
    let i = c.args.i in
    let j = c.args.j in
    let weight = r.weight in
    let index = r.index in
    let first = r.first in
    let last = r.last in
    let next = term_count n w k i (suc j) in
    let one : 1 ≤ j + 1 = omega arith in
    let two : 1 ≤ w + j + 1 - i - k = omega arith in
    let three : 1 ≤ n - w + j + 1 - i - k = omega arith in
    let some : 1 * 1 * 1 ≤ (j + 1) * (w + j + 1 - i - k) * (n - w + j + 1 - i - k) = mul-le-mul (mul-le-mul one two) three in
    let divisor_is = c.product-divisor.ensures in
    let least : 1 ≤ c.product-divisor.result = omega arith in
    quotient_of_multiple next c.product-divisor.result (c.args.count * c.product-factor.result) least
    (ap₂ (λ a b. a * b) r.count c.product-factor.ensures ∙ count-next n w k i j weight index first last ∙ ap (λ d. next * d) (sym divisor_is))
