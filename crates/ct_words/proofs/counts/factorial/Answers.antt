-- Each product is a factorial of at most 20.
use Rattle.std.proofs.Common.{◌≡◌, ℕ, suc, ◌+◌, ◌-◌, ◌*◌, ◌^◌, ◌<◌, ap, arith}
use Rattle.ct_words.specs.Counting.Binomials.{factorial}
use Rattle.ct_words.proofs.Counting.Binomials.{factorial-le}
use Rattle.ct_words.proofs.counts.factorial.Goals as goal

-- one factor more fits, up to 20
product_fits : (j : ℕ) → j < 20 → factorial j * (j + 1) < 2 ^ 64
product_fits j h =
    let grown = factorial-le (suc j) (20 - suc j) in
    let ends : suc j + (20 - suc j) ≡ 20 = omega arith in
    let last = ap factorial ends in
    omega arith

pub overflow_mul-product : goal.overflow_mul-product
overflow_mul-product c =
    let below = c.loop-j-test.true in
    rw (c.loop-j.invariant, c.from-product.ensures) (record { fits = product_fits c.loop-j.j (omega arith) })
