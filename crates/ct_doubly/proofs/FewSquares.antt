-- Where two words of these weights lie far enough apart on the mean, no large number of words is too many.
use Rattle.std.proofs.Common.{◌≡◌, ℕ, zero, suc, ◌+◌, ◌-◌, ◌*◌, ◌/◌, ◌%◌, ◌<◌, ◌≤◌, max, sym, ap, arith}
use Rattle.std.specs.Prelude.{false}
use Rattle.std.proofs.Math.Nat.{div-add-mod, mul-le-mul_left, le_of_mul-le-mul_left}
use Rattle.std.proofs.lemmas.Bool.{le-ltb}
use Rattle.ct_johnson.proofs.PairCounts.{quarter}
use Rattle.ct_doubly.specs.Doubly.{least_squares, are_too_many_by_squares}

-- n times the least squares of t = nq + r ones are t² + r(n - r)
squares-le_at : (n q r s t : ℕ) → n ≡ r + s → t ≡ n * q + r → 4 * (n * (n * (q * q) + 2 * (q * r) + r)) ≤ 4 * (t * t) + n * n
squares-le_at n q r s t parts ones_are =
    let square = ap (λ z. z * z) ones_are in
    let part = quarter r s in
    let whole = ap (λ z. z * z) parts in
    let times = ap (λ z. z * r) parts in
    omega arith

-- so they are at most t²/n + n/4
least_squares-le : (n w m : ℕ) → w ≤ n → 4 * (max n 1 * least_squares n (w * m)) ≤ 4 * (w * m * (w * m)) + max n 1 * n
least_squares-le zero zero m h =
    let none : 0 * m ≡ 0 = omega arith in
    rw none (omega arith)
least_squares-le zero (suc w) m h = absurd (omega arith)
least_squares-le (suc n) w m h =
    let t = w * m in
    let places : max (suc n) 1 ≡ suc n = omega arith in
    let split : t ≡ suc n * (t / suc n) + t % suc n = sym (div-add-mod t (suc n)) in
    let rest : t % suc n < suc n = omega arith in
    rw places (squares-le_at (suc n) (t / suc n) (t % suc n) (suc n - t % suc n) t (omega arith) split)

-- few squares, for halves of length at most a and b whose weights are w and v, and with z and y zeros
few_squares : (a b w z v y n k δ m s t : ℕ) → 1 ≤ a → 1 ≤ b → w + z ≤ a → v + y ≤ b
    → 4 * (a * s) ≤ 4 * (w * m * (w * m)) + a * n → 4 * (b * t) ≤ 4 * (v * m * (v * m)) + b * k
    → δ * a * b ≤ w * z * b + v * y * a → n + k ≤ 4 * δ * m → s + t + δ * (m * m) ≤ (w + v) * (m * m) + δ * m
few_squares a b w z v y n k δ m s t some some_too first last one other far long =
    let one_times = mul-le-mul_left b one in
    let other_times = mul-le-mul_left a other in
    let first_times = mul-le-mul_left (4 * b * m * m * w) first in
    let last_times = mul-le-mul_left (4 * a * m * m * v) last in
    let far_times = mul-le-mul_left (4 * m * m) far in
    let long_times = mul-le-mul_left (a * b) long in
    let times : 4 * (a * (b * (s + t + δ * (m * m)))) ≤ 4 * (a * (b * ((w + v) * (m * m) + δ * m))) = omega arith in
    let quarters : a * (b * (s + t + δ * (m * m))) ≤ a * (b * ((w + v) * (m * m) + δ * m)) = le_of_mul-le-mul_left times (omega arith) in
    let once : b * (s + t + δ * (m * m)) ≤ b * ((w + v) * (m * m) + δ * m) = le_of_mul-le-mul_left quarters some in
    le_of_mul-le-mul_left once some_too

-- in the form of the test
few_at : (w δ m s : ℕ) → s + δ * (m * m) ≤ w * (m * m) + δ * m → δ * (m * (m - 1)) + s ≤ w * (m * m)
few_at w δ zero s few = omega arith
few_at w δ (suc k) s few =
    let less : suc k - 1 ≡ k = omega arith in
    let pairs = ap (λ z. δ * (suc k * z)) less in
    omega arith

-- so from there on no number is too many
pub not_too_many-from : (n1 w1 n2 w2 δ m : ℕ) → w1 ≤ n1 → w2 ≤ n2
    → δ * max n1 1 * max n2 1 ≤ w1 * (n1 - w1) * max n2 1 + w2 * (n2 - w2) * max n1 1 → n1 + n2 ≤ 4 * δ * m
    → are_too_many_by_squares n1 w1 n2 w2 δ m ≡ false
not_too_many-from n1 w1 n2 w2 δ m first last far long =
    le-ltb ((w1 + w2) * (m * m)) (δ * (m * (m - 1)) + (least_squares n1 (w1 * m) + least_squares n2 (w2 * m)))
    (few_at (w1 + w2) δ m (least_squares n1 (w1 * m) + least_squares n2 (w2 * m))
    (few_squares (max n1 1) (max n2 1) w1 (n1 - w1) w2 (n2 - w2) n1 n2 δ m (least_squares n1 (w1 * m)) (least_squares n2 (w2 * m))
    (omega arith) (omega arith) (omega arith) (omega arith) (least_squares-le n1 w1 m first) (least_squares-le n2 w2 m last) far long))
