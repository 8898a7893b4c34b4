-- Products of whole numbers: the laws of a commutative ring, for `omega`, which knows one level of products by itself.
use Rattle.std.proofs.Common.{◌≡◌, ◌*◌, ap, ◌∙◌, arith}
use Rattle.std.specs.Prelude.{ℤ, neg_ℤ, ◌+ℤ◌, ◌*ℤ◌}
use Rattle.std.proofs.lemmas.Int.{ints}
use borrow.Author.Differences.{up, down, sum_is_lem, product_is, neg_is}

-- the product of three numbers can be grouped either way
pub int_mul_assoc : (a b c : ℤ) → (a *ℤ b) *ℤ c ≡ a *ℤ (b *ℤ c)
int_mul_assoc a b c =
    let s = product_is a b in
    let t = product_is b c in
    let p = ap (λ n. n * up c) s.0 in
    let p' = ap (λ n. n * down c) s.0 in
    let q = ap (λ n. n * up c) s.1 in
    let q' = ap (λ n. n * down c) s.1 in
    let r = ap (λ n. up a * n) t.0 in
    let r' = ap (λ n. down a * n) t.0 in
    let v = ap (λ n. up a * n) t.1 in
    let v' = ap (λ n. down a * n) t.1 in
    omega (arith, ints)

-- and taken in either order
pub int_mul_comm : (a b : ℤ) → a *ℤ b ≡ b *ℤ a
int_mul_comm a b = omega (arith, ints)

-- a product with a negated factor
pub int_mul_neg : (a b : ℤ) → a *ℤ neg_ℤ b ≡ neg_ℤ (a *ℤ b)
int_mul_neg a b =
    let s = neg_is b in
    let p = ap (λ n. up a * n) s.0 in
    let q = ap (λ n. up a * n) s.1 in
    let r = ap (λ n. down a * n) s.0 in
    let v = ap (λ n. down a * n) s.1 in
    omega (arith, ints)

pub int_neg_mul : (a b : ℤ) → neg_ℤ a *ℤ b ≡ neg_ℤ (a *ℤ b)
int_neg_mul a b = int_mul_comm (neg_ℤ a) b ∙ int_mul_neg b a ∙ ap neg_ℤ (int_mul_comm b a)

-- a product with a sum before it
pub int_dist_right : (a b c : ℤ) → (a +ℤ b) *ℤ c ≡ (a *ℤ c) +ℤ (b *ℤ c)
int_dist_right a b c =
    let s = sum_is_lem a b in
    let p = ap (λ n. n * up c) s in
    let q = ap (λ n. n * down c) s in
    omega (arith, ints)
