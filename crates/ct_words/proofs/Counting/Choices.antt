-- More of Pascal's triangle: marked choices, choices out of two sets, and how coefficients grow.
use Rattle.std.proofs.Common.{◌≡◌, ℕ, zero, suc, ◌+◌, ◌-◌, ◌*◌, ◌≤◌, sym, ap, ap₂, ◌∙◌, inl, inr, arith}
use Rattle.std.proofs.lemmas.Bool.{cases_lt}
use Rattle.std.proofs.Math.Nat.{mul-le-mul_right}
use Rattle.ct_words.specs.Counting.Binomials.{choose, factorial}
use Rattle.ct_words.proofs.Counting.Binomials.{choose-suc, choose_past, choose-factorial}

-- taking j + 1 of n + 1 things, and marking one of those taken
pub choose-absorb : (n j : ℕ) → suc j * choose (suc n) (suc j) ≡ suc n * choose n j
choose-absorb n j =
    elim (cases_lt n j) [
      | inl past ↦
          let p = choose_past n j past in
          let q = choose_past n (suc j) (omega arith) in
          let a = ap (λ z. suc j * z) q in
          let b = ap (λ z. suc j * z) p in
          let c = ap (λ z. suc n * z) p in
          omega arith
      | inr within ↦
          let p = choose-suc n j within in
          let n_is : suc n ≡ suc j + (n - j) = omega arith in
          let q = ap (λ z. z * choose n j) n_is in
          omega arith
    ]

-- the same for any number of things
pub choose-absorb_any : (n j : ℕ) → suc j * choose n (suc j) ≡ n * choose (n - 1) j
choose-absorb_any zero j = omega arith
choose-absorb_any (suc n) j = let n_is : suc n - 1 ≡ n = omega arith in choose-absorb n j ∙ ap (λ m. suc n * choose m j) (sym n_is)

-- more things leave at least as many choices
pub choose-le-suc : (n k : ℕ) → choose n k ≤ choose (suc n) k
choose-le-suc n zero = omega arith
choose-le-suc n (suc k) = omega arith

-- what can be chosen can be chosen in one way at least
pub one-le-choose : (n k : ℕ) → 1 ≤ choose (n + k) k
one-le-choose n zero = omega arith
one-le-choose n (suc k) =
    let ih = one-le-choose n k in
    let e : n + suc k ≡ suc (n + k) = omega arith in
    let same = ap (λ p. choose p (suc k)) e in
    omega arith

-- arranging k things and then j others is arranging k + j things
pub factorial-product-le : (k j : ℕ) → factorial k * factorial j ≤ factorial (k + j)
factorial-product-le k j =
    let e = choose-factorial j k in
    let all : factorial (j + k) ≡ factorial (k + j) = ap factorial (omega arith) in
    let least = one-le-choose j k in
    let more = mul-le-mul_right (factorial k * factorial j) least in
    omega arith

-- choosing k of w things and l of v others is choosing k + l of all
pub choose-product-le : (w v k l : ℕ) → choose w k * choose v l ≤ choose (w + v) (k + l)
choose-product-le w zero k zero =
    let w_is : w + 0 ≡ w = omega arith in
    let k_is : k + 0 ≡ k = omega arith in
    let same = ap₂ choose w_is k_is in
    omega arith
choose-product-le w zero k (suc l) = omega arith
choose-product-le w (suc v) k zero =
    let ih = choose-product-le w v k zero in
    let w_is : w + suc v ≡ suc (w + v) = omega arith in
    let same = ap (λ m. choose m (k + 0)) w_is in
    let more = choose-le-suc (w + v) (k + 0) in
    omega arith
choose-product-le w (suc v) k (suc l) =
    let a = choose-product-le w v k l in
    let b = choose-product-le w v k (suc l) in
    let w_is : w + suc v ≡ suc (w + v) = omega arith in
    let k_is : k + suc l ≡ suc (k + l) = omega arith in
    let same = ap₂ choose w_is k_is in
    let last = ap (choose (w + v)) k_is in
    omega arith

-- and so do many more
pub choose-monotone : (n m k : ℕ) → choose n k ≤ choose (n + m) k
choose-monotone n zero k = let e : n + 0 ≡ n = omega arith in let same = ap (λ p. choose p k) e in omega arith
choose-monotone n (suc m) k =
    let ih = choose-monotone n m k in
    let more = choose-le-suc (n + m) k in
    let e : n + suc m ≡ suc (n + m) = omega arith in
    let same = ap (λ p. choose p k) e in
    omega arith
