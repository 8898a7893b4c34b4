-- The products stay below 2^64, and the quotient at most 2^n.
use Rattle.std.proofs.Common.{◌≡◌, ℕ, ◌-◌, ◌*◌, ◌/◌, ◌≤◌, arith}
use Rattle.ct_words.specs.Counting.Binomials.{choose, volume}
use Rattle.ct_words.proofs.Counting.Binomials.{choose-le}
use Rattle.ct_words.specs.declared.limits.TheConstants.{MAX_N, MAX_BOUND}
use Rattle.ct_johnson.proofs.JohnsonRule.{fits_taken, fits_balls, power-le}
use Rattle.ct_johnson.proofs.unrestricted.johnson_odd.Goals as goal

-- a product of numbers that are known
product : (a b x y m : ℕ) → a ≡ x → b ≡ y → x * y ≤ m → a * b ≤ m
product a b x y m e f h = rw (e, f) h

pub overflow_mul-taken : goal.overflow_mul-taken
overflow_mul-taken c =
    let half = c.args.half in
    let most = fits_taken (2 * half - 1) (half - 1) c.args.u (omega arith) in
    let within = product c.binomial.result c.from.result (choose (2 * half - 1) (half - 1)) c.args.u (MAX_BOUND * c.args.u) c.binomial.ensures c.from.ensures most in
    omega arith

pub overflow_mul-balls : goal.overflow_mul-balls
overflow_mul-balls c =
    let most = fits_balls c.args.n c.args.half (c.args.half - 1) c.requires.length in
    let within =
    product c.from-most.result c.ball.result (c.args.n / c.args.half) (volume c.args.n (c.args.half - 1)) (MAX_N * MAX_BOUND) c.from-most.ensures c.ball.ensures most in
    omega arith

pub overflow_add-result : goal.overflow_add-result
overflow_add-result c =
    let most = fits_balls c.args.n c.args.half (c.args.half - 1) c.requires.length in
    let within =
    product c.from-most.result c.ball.result (c.args.n / c.args.half) (volume c.args.n (c.args.half - 1)) (MAX_N * MAX_BOUND) c.from-most.ensures c.ball.ensures most in
    let next = choose-le c.args.n c.args.half in
    let power = power-le c.args.n c.requires.length in
    let next_is = c.binomial-next.ensures in
    omega arith
