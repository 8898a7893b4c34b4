-- Pascal's triangle: rows, symmetry, factorials, and the size of a ball.
use Rattle.std.proofs.Common.{◌≡◌, ℕ, zero, suc, ◌+◌, ◌*◌, ◌^◌, ◌<◌, refl, sym, ap, ◌∙◌, arith, ◌-◌, ◌≤◌, add-zero}
use Rattle.std.proofs.Math.Nat.{pow-suc}
use Rattle.ct_words.specs.Counting.Sums.{sum_below}
use Rattle.ct_words.specs.Counting.Binomials.{choose, factorial, volume}
use Rattle.ct_words.proofs.Counting.Sums.{sum_below-first, sum_below-past, sum_below-le}

-- nothing can be taken more often than it is there
pub choose_past : (n k : ℕ) → n < k → choose n k ≡ 0
choose_past n zero h = absurd (omega arith)
choose_past zero (suc k) h = refl
choose_past (suc n) (suc k) h =
    let a = choose_past n k (omega arith) in
    let b = choose_past n (suc k) (omega arith) in
    omega arith

-- there is one way to take all
pub choose_all : (n : ℕ) → choose n n ≡ 1
choose_all zero = refl
choose_all (suc n) =
    let a = choose_all n in
    let b = choose_past n (suc n) (omega arith) in
    omega arith

-- a row of the triangle, as far as it is summed, is twice the row above, less its last term
pub row-suc : (n k : ℕ) → sum_below (choose (suc n)) (suc k) ≡ sum_below (choose n) (suc k) + sum_below (choose n) k
row-suc n zero = refl
row-suc n (suc k) = let ih = row-suc n k in omega arith

-- a row of the triangle adds up to a power of two
pub row_total : (n : ℕ) → sum_below (choose n) (suc n) ≡ 2 ^ n
row_total zero = refl
row_total (suc n) =
    let ih = row_total n in
    let step = row-suc n (suc n) in
    let last = choose_past n (suc n) (omega arith) in
    let double = pow-suc 2 n in
    omega arith

-- taking k out of m is leaving the other n
pub choose_symmetric_at : (m n k : ℕ) → n + k ≡ m → choose m k ≡ choose m n
choose_symmetric_at zero zero zero e = refl
choose_symmetric_at zero zero (suc k) e = absurd (omega arith)
choose_symmetric_at zero (suc n) k e = absurd (omega arith)
choose_symmetric_at (suc m) zero zero e = refl
choose_symmetric_at (suc m) zero (suc k) e =
    let k_is : suc k ≡ suc m = omega arith in
    ap (choose (suc m)) k_is ∙ choose_all (suc m)
choose_symmetric_at (suc m) (suc n) zero e =
    let n_is : suc m ≡ suc n = omega arith in
    sym (choose_all (suc m)) ∙ ap (choose (suc m)) n_is
choose_symmetric_at (suc m) (suc n) (suc k) e =
    let a = choose_symmetric_at m (suc n) k (omega arith) in
    let b = choose_symmetric_at m n (suc k) (omega arith) in
    omega arith

pub choose_symmetric : (n k : ℕ) → choose (n + k) k ≡ choose (n + k) n
choose_symmetric n k = choose_symmetric_at (n + k) n k refl

-- a binomial coefficient is a quotient of factorials
pub choose-factorial_at : (m n k : ℕ) → n + k ≡ m → choose m k * (factorial k * factorial n) ≡ factorial m
choose-factorial_at m n zero e =
    let n_is : n ≡ m = omega arith in
    let same = ap factorial n_is in
    omega arith
choose-factorial_at zero n (suc k) e = absurd (omega arith)
choose-factorial_at (suc m) zero (suc k) e =
    let k_is : suc k ≡ suc m = omega arith in
    let same = ap factorial k_is in
    let one = ap (choose (suc m)) k_is ∙ choose_all (suc m) in
    let p = ap (λ c. c * (factorial (suc k) * 1)) one in
    omega arith
choose-factorial_at (suc m) (suc n) (suc k) e =
    let a = ap (λ z. suc k * z) (choose-factorial_at m (suc n) k (omega arith)) in
    let b = ap (λ z. suc n * z) (choose-factorial_at m n (suc k) (omega arith)) in
    let k_is : suc k + suc n ≡ suc m = omega arith in
    let c = ap (λ z. z * factorial m) k_is in
    omega arith

pub choose-factorial : (n k : ℕ) → choose (n + k) k * (factorial k * factorial n) ≡ factorial (n + k)
choose-factorial n k = choose-factorial_at (n + k) n k refl

-- a ball whose radius is at least the length holds every word
pub volume_whole : (n k : ℕ) → volume n (n + k) ≡ 2 ^ n
volume_whole n k =
    let ends : suc (n + k) ≡ suc n + k = omega arith in
    ap (sum_below (choose n)) ends
    ∙ sum_below-past (choose n) (suc n) k (λ j h. choose_past n j (omega arith))
    ∙ row_total n

-- a ball in one dimension more, of a radius that is one more
pub volume-suc : (n e : ℕ) → volume (suc n) (suc e) ≡ volume n (suc e) + volume n e
volume-suc n e = row-suc n (suc e)

-- a part of a row of the triangle adds up to at most the power of two
pub row_part : (n k : ℕ) → sum_below (choose n) k ≤ 2 ^ n
row_part n zero = omega arith
row_part n (suc k) =
    let whole = volume_whole n k in
    let ends : suc (n + k) ≡ suc k + n = omega arith in
    let grown = sum_below-le (choose n) (suc k) n in
    let same = ap (sum_below (choose n)) ends in
    omega arith

-- a binomial coefficient is at most the power of two
pub choose-le : (n k : ℕ) → choose n k ≤ 2 ^ n
choose-le n k = let part = row_part n (suc k) in omega arith

-- from one binomial coefficient of a row to the next
pub choose-suc_at : (n j m : ℕ) → j + m ≡ n → choose n (suc j) * suc j ≡ choose n j * m
choose-suc_at zero j m e =
    let m_is : m ≡ 0 = omega arith in
    let none = ap (λ z. choose 0 j * z) m_is in
    omega arith
choose-suc_at (suc n) zero m e = let ih = choose-suc_at n 0 n (omega arith) in omega arith
choose-suc_at (suc n) (suc j) zero e =
    let a = choose_past n (suc j) (omega arith) in
    let b = choose_past n (suc (suc j)) (omega arith) in
    let p = ap (λ z. z * suc (suc j)) a in
    let q = ap (λ z. z * suc (suc j)) b in
    omega arith
choose-suc_at (suc n) (suc j) (suc m) e =
    let a = choose-suc_at n j (suc m) (omega arith) in
    let b = choose-suc_at n (suc j) m (omega arith) in
    omega arith

pub choose-suc : (n j : ℕ) → j ≤ n → choose n (suc j) * suc j ≡ choose n j * (n - j)
choose-suc n j h = choose-suc_at n j (n - j) (omega arith)

-- a factorial is at least one
pub one-le-factorial : (k : ℕ) → 1 ≤ factorial k
one-le-factorial zero = omega arith
one-le-factorial (suc k) = let ih = one-le-factorial k in omega arith

-- factorials grow
pub factorial-le : (j k : ℕ) → factorial j ≤ factorial (j + k)
factorial-le j zero = let e = ap factorial (add-zero j) in omega arith
factorial-le j (suc k) =
    let ih = factorial-le j k in
    let e : j + suc k ≡ suc (j + k) = omega arith in
    let same = ap factorial e in
    omega arith

-- a ball has its own centre
pub one-le-volume : (n e : ℕ) → 1 ≤ volume n e
one-le-volume n e = let first = sum_below-first (choose n) e in omega arith

-- a ball has no more words than there are
pub volume-le : (n e : ℕ) → volume n e ≤ 2 ^ n
volume-le n e = row_part n (suc e)

-- there is a way to take k of n things, where k ≤ n
pub one-le-choose : (n k : ℕ) → k ≤ n → 1 ≤ choose n k
one-le-choose n zero h = omega arith
one-le-choose zero (suc k) h = absurd (omega arith)
one-le-choose (suc n) (suc k) h = let a = one-le-choose n k (omega arith) in omega arith

-- a binomial coefficient is at most half the power of two
pub choose-le-half : (n k : ℕ) → choose (suc n) k ≤ 2 ^ n
choose-le-half n zero = let part = row_part n 1 in omega arith
choose-le-half n (suc k) = let part = row_part n (suc (suc k)) in omega arith
