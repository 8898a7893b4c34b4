-- Quotients are in the order of their numbers, and in the turned order of their divisors.
use Rattle.std.proofs.Common.{ℕ, zero, suc, ◌/◌, ◌≤◌, arith, div-mul-le_self}
use Rattle.std.proofs.Math.Nat.{div-zero, mul-le-mul_left}
use Rattle.std.proofs.lemmas.Nat.{le-div}

-- a greater number has no smaller quotient
pub div-le-div : (a b k : ℕ) → a ≤ b → a / k ≤ b / k
div-le-div a b zero h =
    let none = div-zero a in
    omega arith
div-le-div a b (suc k) h =
    let part = div-mul-le_self a (suc k) in
    le-div (a / suc k) b (suc k) (omega arith) (omega arith)

-- a greater divisor gives no greater quotient
pub div-le-div_divisor : (a b c : ℕ) → 1 ≤ b → b ≤ c → a / c ≤ a / b
div-le-div_divisor a b c some h =
    let part = div-mul-le_self a c in
    let fewer = mul-le-mul_left (a / c) h in
    le-div (a / c) a b some (omega arith)
