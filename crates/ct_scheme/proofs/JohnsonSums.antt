-- The sizes of the sum's terms, and of the sum so far.
use Rattle.std.proofs.Common.{◌≡◌, ℕ, suc, ◌+◌, ◌-◌, ◌*◌, ◌/◌, ◌^◌, ◌<◌, ◌≤◌, min, sym, ap, ap₂, ◌∙◌, inl, inr, arith}
use Rattle.std.specs.Prelude.{ℤ, pos, ◌*ℤ◌, unsigned_abs}
use Rattle.std.proofs.Math.Nat.{mul-le-mul, mul-le-mul_left}
use Rattle.std.proofs.lemmas.Bool.{cases_lt}
use Rattle.std.proofs.lemmas.Int.{ints}
use Rattle.std.proofs.lemmas.Nat.{div-mul-add}
use Rattle.ct_words.specs.Counting.Alternating.{total_below, sign}
use Rattle.ct_words.specs.Counting.Binomials.{choose, factorial}
use Rattle.ct_words.proofs.Counting.Alternating.{total_below-bounded, unsigned_abs-signed}
use Rattle.ct_words.proofs.Counting.Binomials.{one-le-factorial, choose_past, choose-suc}
use Rattle.ct_words.proofs.Counting.Matchings.{matchings, matchings-product-le}
use Rattle.ct_words.proofs.MatchingSizes.{matchings-small}
use Rattle.ct_words.proofs.Counting.ZeroTerms.{total_below-zeros, total_below-past}
use Rattle.ct_words.specs.declared.limits.TheConstants.{MAX_N}
use Rattle.ct_scheme.specs.Numbers.{term_count}

-- a term of the sum
abbrev pub term : ℕ → ℕ → ℕ → ℕ → ℕ → ℤ
term n w k i j = sign j *ℤ pos (term_count n w k i j)

-- what the numbers of the scheme are taken at
pub record IsWithin (n w k i : ℕ) : Type 0 where
  pub length : n ≤ MAX_N
  pub weight : w ≤ n
  pub row : k ≤ min w (n - w)
  pub index : i ≤ min w (n - w)

-- a count is the product of two numbers of matchings
pub count-is : (n w k i j : ℕ) → matchings i i j * matchings (w - i) (n - w - i) (k - j) ≡ term_count n w k i j
count-is n w k i j = regroup (choose i j) (choose i j) (factorial j) (choose (w - i) (k - j)) (choose (n - w - i) (k - j)) (factorial (k - j))
  where
    regroup : (x y f p q g : ℕ) → (x * y * f) * (p * q * g) ≡ x * y * f * p * q * g
    regroup x y f p q g = omega arith

-- it is below 2^47
pub count-small : (n w k i j : ℕ) → IsWithin n w k i → j ≤ k → term_count n w k i j < 2 ^ 47
count-small n w k i j h l =
    let row = h.row in
    let index = h.index in
    let weight = h.weight in
    let length = h.length in
    let product = matchings-product-le (w - i) (n - w - i) i j (k - j) in
    let k_is : k - j + j ≡ k = omega arith in
    let all = matchings-small (w - i + i) (n - w - i + i) (k - j + j) (omega arith) (omega arith) in
    let same = count-is n w k i j in
    omega arith

-- the sum so far leaves room for one step more
pub sum_has_room : (n w k i j : ℕ) → IsWithin n w k i → j ≤ suc k → unsigned_abs (total_below (term n w k i) j) < 2 ^ 120
sum_has_room n w k i j h l =
    let row = h.row in
    let length = h.length in
    let bounded = total_below-bounded (term n w k i) (2 ^ 47) j each in
    omega arith
  where
    each : (a : ℕ) → a < j → unsigned_abs (sign a *ℤ pos (term_count n w k i a)) ≤ 2 ^ 47
    each a less =
        let size = unsigned_abs-signed a (term_count n w k i a) in
        let small = count-small n w k i a h (omega arith) in
        omega arith

-- a number of matchings fits, and so does the product before its last factor
pub matchings-fit : (a b k : ℕ) → a + b ≤ MAX_N → 2 * k ≤ MAX_N → (choose a k * choose b k < 2 ^ 47) × (matchings a b k < 2 ^ 47)
matchings-fit a b k h l =
    let small = matchings-small a b k h (omega arith) in
    let more = mul-le-mul_left (choose a k * choose b k) (one-le-factorial k) in
    (omega arith, small)

-- before the first place of a term the terms are 0: too many pairs would be left for one of the two other sets
pub count-before : (n w k i j : ℕ) → w ≤ n → i ≤ min w (n - w) → min w (n - w) + j < k + i → term_count n w k i j ≡ 0
count-before n w k i j weight index past =
    elim (cases_lt (w - i) (k - j)) [
      | inl few ↦
          let none = choose_past (w - i) (k - j) few in
          let product = ap (λ x. choose i j * choose i j * factorial j * x * choose (n - w - i) (k - j) * factorial (k - j)) none in
          omega arith
      | inr enough ↦
          let none = choose_past (n - w - i) (k - j) (omega arith) in
          let product = ap (λ x. choose i j * choose i j * factorial j * choose (w - i) (k - j) * x * factorial (k - j)) none in
          omega arith
    ]

-- after the place i they are 0, too
pub count-after : (n w k i j : ℕ) → i < j → term_count n w k i j ≡ 0
count-after n w k i j past =
    let none = choose_past i j past in
    let product = ap (λ x. x * x * factorial j * choose (w - i) (k - j) * choose (n - w - i) (k - j) * factorial (k - j)) none in
    omega arith

-- a term that counts nothing
signed_nothing : (s : ℤ) (m : ℕ) → m ≡ 0 → s *ℤ pos m ≡ pos 0
signed_nothing s m none = ap (λ x. s *ℤ pos x) none ∙ omega (arith, ints)

-- the sum up to its first place that counts
pub sum_before : (n w k i : ℕ) → IsWithin n w k i → total_below (term n w k i) (k + i - min w (n - w)) ≡ pos 0
sum_before n w k i h =
    let index = h.index in
    let weight = h.weight in
    total_below-zeros (term n w k i) (k + i - min w (n - w))
    (λ j l. signed_nothing (sign j) (term_count n w k i j) (count-before n w k i j weight index (omega arith)))

-- the sum up to its last place that counts
pub sum_after : (n w k i : ℕ) → total_below (term n w k i) (suc (min k i)) ≡ total_below (term n w k i) (suc k)
sum_after n w k i =
    elim (cases_lt i k) [
      | inl past ↦
          let ends : suc k ≡ suc (min k i) + (k - i) = omega arith in
          sym (ap (total_below (term n w k i)) ends
          ∙ total_below-past (term n w k i) (suc (min k i)) (k - i)
          (λ j l. signed_nothing (sign j) (term_count n w k i j) (count-after n w k i j (omega arith))))
      | inr within ↦ let ends : suc (min k i) ≡ suc k = omega arith in ap (total_below (term n w k i)) ends
    ]

-- an equation between two products, of the equations between their factors
exchange : (x x' a s f b b' p q d d' r g : ℕ) → x' * s ≡ x * a → b * q ≡ b' * p → d * q ≡ d' * r
    → x * x * f * b * d * (q * g) * (a * a * q) ≡ x' * x' * (s * f) * b' * d' * g * (s * p * r)
exchange x x' a s f b b' p q d d' r g first second third =
    let split : x * x * f * b * d * (q * g) * (a * a * q) ≡ (x * a) * (x * a) * f * (b * q) * (d * q) * g = omega arith in
    let turned : (x * a) * (x * a) * f * (b * q) * (d * q) * g ≡ (x' * s) * (x' * s) * f * (b' * p) * (d' * r) * g =
    ap₂ (λ u v. u * u * f * v * (d * q) * g) (sym first) second ∙ ap (λ v. (x' * s) * (x' * s) * f * (b' * p) * v * g) third in
    let joined : (x' * s) * (x' * s) * f * (b' * p) * (d' * r) * g ≡ x' * x' * (s * f) * b' * d' * g * (s * p * r) = omega arith in
    split ∙ turned ∙ joined

-- from one term that counts to the next
pub count-next : (n w k i j : ℕ) → w ≤ n → i ≤ min w (n - w) → k + i ≤ min w (n - w) + j → j < min k i
    → term_count n w k i j * ((i - j) * (i - j) * (k - j)) ≡ term_count n w k i (suc j) * ((j + 1) * (w + j + 1 - i - k) * (n - w + j + 1 - i - k))
count-next n w k i j weight index first last =
    let rest = k - suc j in
    let k_is : k - j ≡ suc rest = omega arith in
    let s_is : suc j ≡ j + 1 = omega arith in
    let p_is : w - i - rest ≡ w + j + 1 - i - k = omega arith in
    let r_is : n - w - i - rest ≡ n - w + j + 1 - i - k = omega arith in
    let all = exchange (choose i j) (choose i (suc j)) (i - j) (suc j) (factorial j) (choose (w - i) (suc rest)) (choose (w - i) rest) (w - i - rest) (suc rest)
    (choose (n - w - i) (suc rest)) (choose (n - w - i) rest) (n - w - i - rest) (factorial rest)
    (choose-suc i j (omega arith)) (choose-suc (w - i) rest (omega arith)) (choose-suc (n - w - i) rest (omega arith)) in
    ap (λ m. choose i j * choose i j * factorial j * choose (w - i) m * choose (n - w - i) m * factorial m * ((i - j) * (i - j) * m)) k_is
    ∙ all
    ∙ ap₂ (λ p r. term_count n w k i (suc j) * (suc j * p * r)) p_is r_is
    ∙ ap (λ s. term_count n w k i (suc j) * (s * (w + j + 1 - i - k) * (n - w + j + 1 - i - k))) s_is

-- a product of three numbers below 2^5
pub product-small : (a b c : ℕ) → a < 2 ^ 5 → b < 2 ^ 5 → c < 2 ^ 5 → (a * b < 2 ^ 10) × (a * b * c < 2 ^ 15)
product-small a b c p q r =
    let first : a ≤ 31 = omega arith in
    let second : b ≤ 31 = omega arith in
    let third : c ≤ 31 = omega arith in
    let two : a * b ≤ 31 * 31 = mul-le-mul first second in
    let three : a * b * c ≤ 31 * 31 * 31 = mul-le-mul two third in
    (omega arith, omega arith)

-- a multiple of a divisor, divided by it
pub quotient_of_multiple : (m d whole : ℕ) → 1 ≤ d → whole ≡ m * d → whole / d ≡ m
quotient_of_multiple m d whole some is =
    let e : m * d ≡ m * d + 0 = omega arith in
    ap (λ x. x / d) (is ∙ e) ∙ div-mul-add m d 0 some
