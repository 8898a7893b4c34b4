-- The coefficients of (1 - z)^i (1 + z)^m, which are alternating sums of products of binomial coefficients.
use Rattle.std.proofs.Common.{◌≡◌, ℕ, zero, suc, ◌+◌, ◌-◌, ◌*◌, ◌^◌, ◌≤◌, refl, sym, ap, ap₂, ◌∙◌, arith}
use Rattle.std.specs.Prelude.{ℤ, pos, neg_ℤ, ◌+ℤ◌, ◌-ℤ◌, ◌*ℤ◌, unsigned_abs}
use Rattle.std.proofs.Math.Nat.{mul-le-mul}
use Rattle.std.proofs.lemmas.Nat.{pow-add}
use Rattle.std.proofs.lemmas.Int.{ints}
use Rattle.ct_words.specs.Counting.Alternating.{total_below, sign}
use Rattle.ct_words.specs.Counting.Binomials.{choose}
use Rattle.ct_words.proofs.Counting.Binomials.{choose-le}
use Rattle.ct_words.proofs.Counting.Alternating.{unsigned_abs-add, unsigned_abs-sub}
use Rattle.ct_words.proofs.Counting.Products.{int_mul_assoc, int_neg_mul}
use Rattle.ct_words.proofs.Counting.Convolutions.{convolution, total_below-congruence, total_below-convolution, convolution-zero_left, convolution-pascal_left, convolution-pascal_right}

-- the coefficient of z^k in (1 - z)^i (1 + z)^m: the sum over j of (-1)^j C(i,j) C(m,k - j)
unfoldable pub signed_binomial : ℕ → ℕ → ℕ → ℤ
signed_binomial i m k = total_below (λ j. sign j *ℤ pos (choose i j * choose m (k - j))) (suc k)

-- the coefficients of (1 - z)^i and of (1 + z)^m
abbrev pub minus_power : ℕ → ℕ → ℤ
minus_power i j = sign j *ℤ pos (choose i j)

abbrev pub plus_power : ℕ → ℕ → ℤ
plus_power m j = pos (choose m j)

-- the coefficients of a product are a convolution
pub signed_binomial-convolution : (i m k : ℕ) → signed_binomial i m k ≡ convolution (minus_power i) (plus_power m) k
unfolding signed_binomial
signed_binomial-convolution i m k =
    total_below-congruence (λ j. sign j *ℤ pos (choose i j * choose m (k - j))) (λ j. minus_power i j *ℤ plus_power m (k - j)) (suc k)
    (λ j l. sym (int_mul_assoc (sign j) (pos (choose i j)) (pos (choose m (k - j)))))
    ∙ total_below-convolution (minus_power i) (plus_power m) k

-- at k = 0 it is 1
pub signed_binomial-first : (i m : ℕ) → signed_binomial i m 0 ≡ pos 1
signed_binomial-first i m = signed_binomial-convolution i m 0

-- of the constant 1 no other coefficient is there
pub signed_binomial-none : (k : ℕ) → signed_binomial 0 0 (suc k) ≡ pos 0
signed_binomial-none k =
    let rest = convolution-zero_left (λ j. minus_power 0 (suc j)) (plus_power 0) k (λ j. omega (arith, ints)) in
    signed_binomial-convolution 0 0 (suc k) ∙ omega (arith, ints)

-- one factor 1 + z more
pub signed_binomial-plus : (i m k : ℕ) → signed_binomial i (suc m) (suc k) ≡ signed_binomial i m k +ℤ signed_binomial i m (suc k)
signed_binomial-plus i m k =
    signed_binomial-convolution i (suc m) (suc k)
    ∙ convolution-pascal_right (minus_power i) (plus_power m) (plus_power (suc m)) refl (λ j. refl) k
    ∙ ap₂ (λ a b. a +ℤ b) (sym (signed_binomial-convolution i m k)) (sym (signed_binomial-convolution i m (suc k)))

-- Pascal's rule with signs
minus_power-suc : (i j : ℕ) → minus_power (suc i) (suc j) ≡ minus_power i (suc j) +ℤ neg_ℤ (minus_power i j)
minus_power-suc i j =
    let a = int_neg_mul (sign j) (pos (choose i j + choose i (suc j))) in
    let b = int_neg_mul (sign j) (pos (choose i (suc j))) in
    omega (arith, ints)

-- one factor 1 - z more
pub signed_binomial-minus : (i m k : ℕ) → signed_binomial (suc i) m (suc k) ≡ signed_binomial i m (suc k) -ℤ signed_binomial i m k
signed_binomial-minus i m k =
    signed_binomial-convolution (suc i) m (suc k)
    ∙ convolution-pascal_left (minus_power i) (plus_power m) (minus_power (suc i)) refl (minus_power-suc i) k
    ∙ ap₂ (λ a b. a -ℤ b) (sym (signed_binomial-convolution i m (suc k))) (sym (signed_binomial-convolution i m k))

-- a coefficient of (1 - z)^i (1 + z)^m is at most that of (1 + z)^(i + m)
pub signed_binomial-le : (i m k : ℕ) → unsigned_abs (signed_binomial i m k) ≤ choose (i + m) k
signed_binomial-le i m zero = let e = ap unsigned_abs (signed_binomial-first i m) in omega arith
signed_binomial-le zero zero (suc k) = let e = ap unsigned_abs (signed_binomial-none k) in omega arith
signed_binomial-le i (suc m) (suc k) =
    let a = signed_binomial-le i m k in
    let b = signed_binomial-le i m (suc k) in
    let e = ap unsigned_abs (signed_binomial-plus i m k) in
    let sum = unsigned_abs-add (signed_binomial i m k) (signed_binomial i m (suc k)) in
    let n_is : i + suc m ≡ suc (i + m) = omega arith in
    let whole = ap (λ n. choose n (suc k)) n_is in
    omega arith
signed_binomial-le (suc i) zero (suc k) =
    let a = signed_binomial-le i zero k in
    let b = signed_binomial-le i zero (suc k) in
    let e = ap unsigned_abs (signed_binomial-minus i zero k) in
    let sum = unsigned_abs-sub (signed_binomial i zero (suc k)) (signed_binomial i zero k) in
    let n_is : suc i + zero ≡ suc (i + zero) = omega arith in
    let whole = ap (λ n. choose n (suc k)) n_is in
    omega arith

-- for powers that add up to n it is at most 2^n
pub signed_binomial-le_power : (n k i : ℕ) → i ≤ n → unsigned_abs (signed_binomial i (n - i) k) ≤ 2 ^ n
signed_binomial-le_power n k i h =
    let bound = signed_binomial-le i (n - i) k in
    let n_is : i + (n - i) ≡ n = omega arith in
    let row = ap (λ m. choose m k) n_is in
    let most = choose-le n k in
    omega arith

-- so is each product in the sum
pub choose_product-le : (n i j l : ℕ) → i ≤ n → choose i j * choose (n - i) l ≤ 2 ^ n
choose_product-le n i j l h =
    let first = choose-le i j in
    let second = choose-le (n - i) l in
    let product = mul-le-mul first second in
    let power = pow-add 2 i (n - i) in
    let n_is : i + (n - i) ≡ n = omega arith in
    let whole = ap (λ m. 2 ^ m) n_is in
    omega arith
