-- Where w² ≤ (w - half)·n, few pairs are among more words than n/(4·half).
use Rattle.std.proofs.Common.{ℕ, ◌*◌, ◌/◌, ◌<◌, ◌≤◌, arith}
use Rattle.std.proofs.Math.Nat.{div-lt_iff_lt-mul}
use Rattle.ct_johnson.proofs.PairCounts.{not_too_many-from}
use Rattle.ct_johnson.proofs.columns.last_to_try.Goals as goal

-- what is above a quotient is, times the divisor, at least the number
above_quotient : (n k m : ℕ) → 1 ≤ k → n / k < m → n ≤ k * m
above_quotient n k m some above =
    let times = (div-lt_iff_lt-mul some).0 above in
    omega arith

pub returns-then-w-half-clause-rest : goal.returns-then-w-half-clause-rest
returns-then-w-half-clause-rest c = λ m above few.
    let half = c.args.half in
    let weight = c.requires.weight in
    let some : 1 ≤ 4 * half = omega (arith, weight.0) in
    not_too_many-from c.args.n half c.args.w m c.requires.length.0 weight.1 c.if-w-half.true
    (above_quotient c.args.n (4 * half) m some above)
