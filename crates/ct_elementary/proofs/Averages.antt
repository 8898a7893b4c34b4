-- Plotkin's inequality: the average distance of two words is at most what the columns allow.
use Rattle.std.proofs.Common.{◌≡◌, ℕ, zero, suc, ◌+◌, ◌-◌, ◌*◌, ◌/◌, ◌%◌, ◌<◌, ◌≤◌, List, length, ap, ◌∙◌, arith, inl, inr}
use Rattle.std.proofs.Math.Nat.{le_of_mul-le-mul_left, mul-le-mul}
use Rattle.std.proofs.lemmas.Bool.{cases_lt, cases_eq}
use Rattle.std.proofs.lemmas.Nat.{le-div}
use Rattle.std.specs.Prelude.{Bool, ◌⊎◌}
use Rattle.ct_words.specs.Counting.Words.{apart, ones}
use Rattle.ct_words.proofs.Counting.Distances.{apart_symmetric}
use Rattle.ct_words.proofs.Counting.Spread.{IsSpread}
use Rattle.ct_words.proofs.Counting.PairSums.{pair_sum, pair_sum-ge}
use Rattle.ct_words.proofs.Counting.Places.{difference, zeros, ones-zeros, column_pairs, distances-le}

-- four times a product of two numbers, and the square of their difference, are the square of their sum
square_gap : (k t : ℕ) → 2 * (2 * (k * (k + t))) + t * t ≡ (k + (k + t)) * (k + (k + t))
square_gap k t = omega arith

-- a product of two numbers is at most a quarter of the square of their sum
product_any : (k z m : ℕ) → k + z ≡ m → 2 * (2 * (k * z)) ≤ m * m
product_any k z m e =
    elim (cases_lt k z) [
      | inl less ↦
          let gap = square_gap k (z - k) in
          let z_is : z ≡ k + (z - k) = omega arith in
          let product = ap (λ y. k * y) z_is in
          let m_is : m ≡ k + (k + (z - k)) = omega arith in
          let square = ap (λ y. y * y) m_is in
          omega arith
      | inr more ↦
          let gap = square_gap z (k - z) in
          let k_is : k ≡ z + (k - z) = omega arith in
          let product = ap (λ y. y * z) k_is in
          let m_is : m ≡ z + (z + (k - z)) = omega arith in
          let square = ap (λ y. y * y) m_is in
          omega arith
    ]

-- where the sum is odd, four times the product is one less at least
product_odd : (k z h : ℕ) → k + z ≡ suc (2 * h) → 2 * (2 * (k * z)) ≤ 4 * (h * suc h)
product_odd k z h e =
    elim (cases_lt k z) [
      | inl less ↦
          let gap = square_gap k (z - k) in
          let z_is : z ≡ k + (z - k) = omega arith in
          let product = ap (λ y. k * y) z_is in
          let m_is : suc (2 * h) ≡ k + (k + (z - k)) = omega arith in
          let square = ap (λ y. y * y) m_is in
          let apart : 1 ≤ z - k = omega arith in
          let one = mul-le-mul apart apart in
          omega arith
      | inr more ↦
          let gap = square_gap z (k - z) in
          let k_is : k ≡ z + (k - z) = omega arith in
          let product = ap (λ y. y * z) k_is in
          let m_is : suc (2 * h) ≡ z + (z + (k - z)) = omega arith in
          let square = ap (λ y. y * y) m_is in
          let apart : 1 ≤ k - z = omega arith in
          let one = mul-le-mul apart apart in
          omega arith
    ]

-- the pairs of a column that differ are at most half of all
column_any : (m : ℕ) (column : List Bool) → length column ≡ m → 2 * pair_sum difference column ≤ m * m
column_any m column long =
    let pairs = column_pairs column in
    let most = product_any (ones column) (zeros column) m (ones-zeros column ∙ long) in
    omega arith

-- where there is an odd number of words, one less at least
column_odd : (h : ℕ) (column : List Bool) → length column ≡ suc (2 * h) → 2 * pair_sum difference column ≤ 4 * (h * suc h)
column_odd h column long =
    let pairs = column_pairs column in
    let most = product_odd (ones column) (zeros column) h (ones-zeros column ∙ long) in
    omega arith

-- an even number of words, twice h, of distance d at length n = 2d - g
average_even : (n d g h s : ℕ) → 2 * d ≡ n + g → d * ((2 * h) * (2 * h)) ≤ s + d * (2 * h) → 2 * s ≤ n * ((2 * h) * (2 * h)) → h * g ≤ d
average_even n d g zero s gap least most = omega arith
average_even n d g (suc h) s gap least most =
    let scaled = ap (λ y. y * (suc h * suc h)) gap in
    let both : suc h * (suc h * g) ≤ suc h * d = omega arith in
    le_of_mul-le-mul_left both (omega arith)

-- an odd number of words, twice h and one, of distance d at length n = 2d - g
average_odd : (n d g h s : ℕ) → 2 * d ≡ n + g → d ≤ n → d * (suc (2 * h) * suc (2 * h)) ≤ s + d * suc (2 * h) → 2 * s ≤ n * (4 * (h * suc h)) → suc h * g ≤ d
average_odd n d g zero s gap long least most = omega arith
average_odd n d g (suc h) s gap long least most =
    let scaled = ap (λ y. y * suc (suc h)) gap in
    let both : suc h * (d * suc (2 * suc h)) ≤ suc h * (n * suc (suc h)) = omega arith in
    let average = le_of_mul-le-mul_left both (omega arith) in
    omega arith

-- each number is twice another, or one more
halved : (m : ℕ) → (h : ℕ) × ((m ≡ 2 * h) ⊎ (m ≡ suc (2 * h)))
halved m =
    elim (cases_eq (m % 2) 0) [
      | inl even ↦ let e : m ≡ 2 * (m / 2) = omega arith in (m / 2, inl e)
      | inr odd ↦ let e : m ≡ suc (2 * (m / 2)) = omega arith in (m / 2, inr e)
    ]

-- Plotkin's bound for d ≤ n < 2d
pub spread_plotkin : (n d : ℕ) → d ≤ n → n < 2 * d → (cs : List (List Bool)) → IsSpread n d cs → length cs ≤ 2 * (d / (2 * d - n))
spread_plotkin n d long short cs spread =
    let g = 2 * d - n in
    let s = pair_sum apart cs in
    let gap : 2 * d ≡ n + g = omega arith in
    let least = pair_sum-ge d apart cs apart_symmetric spread.distances in
    let (h, cases) = halved (length cs) in
    elim cases [
      | inl even ↦
          let most = distances-le n (2 * h * (2 * h)) (2 * h) cs spread.lengths even (column_any (2 * h)) in
          let square : d * (2 * h * (2 * h)) ≤ s + d * (2 * h) = rw even at least in
          let floor = le-div h d g (omega arith) (average_even n d g h s gap square most) in
          omega arith
      | inr odd ↦
          let most = distances-le n (4 * (h * suc h)) (suc (2 * h)) cs spread.lengths odd (column_odd h) in
          let square : d * (suc (2 * h) * suc (2 * h)) ≤ s + d * suc (2 * h) = rw odd at least in
          let floor = le-div (suc h) d g (omega arith) (average_odd n d g h s gap long square most) in
          omega arith
    ]
