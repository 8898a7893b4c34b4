-- Quotients that are rounded up.
use Rattle.std.proofs.Common.{ℕ, zero, suc, ◌+◌, ◌*◌, ◌<◌, ◌≤◌, arith}
use Rattle.std.specs.Int.{div_ceil}
use Rattle.std.proofs.Math.Nat.{lt_of_mul-lt-mul_right}
use Rattle.std.proofs.lemmas.Grind.{div_ceil_times}

-- a multiple below one more than another is at most that one
below_next : (c a k q : ℕ) → c * k < a + k → a ≤ q * k → c ≤ q
below_next c a k q near h =
    let below : c < q + 1 = lt_of_mul-lt-mul_right k (omega arith) in
    omega arith

-- a number that is at most q times the divisor has a quotient of at most q
pub div_ceil-le : (a k q : ℕ) → 1 ≤ k → a ≤ q * k → div_ceil a k ≤ q
div_ceil-le a k q some h = below_next (div_ceil a k) a k q (div_ceil_times a k some).1 h

-- a greater number has no smaller quotient
pub div_ceil-le-div_ceil : (a b k : ℕ) → 1 ≤ k → a ≤ b → div_ceil a k ≤ div_ceil b k
div_ceil-le-div_ceil a b k some h =
    let whole = (div_ceil_times b k some).0 in
    div_ceil-le a k (div_ceil b k) some (omega arith)

-- a multiple that is not 0
positive : (c a k : ℕ) → 1 ≤ a → a ≤ c * k → 1 ≤ c
positive zero a k some h = absurd (omega arith)
positive (suc c) a k some h = omega arith

-- a number above 0 has a quotient above 0
pub one-le-div_ceil : (a k : ℕ) → 1 ≤ k → 1 ≤ a → 1 ≤ div_ceil a k
one-le-div_ceil a k some h = positive (div_ceil a k) a k h (div_ceil_times a k some).0
