-- Signed counts of matchings: of j pairs out of two sets of c things, which count -1 each, and of k - j pairs out of a and b things.
use Rattle.std.proofs.Common.{◌≡◌, ℕ, zero, suc, ◌+◌, ◌-◌, ◌*◌, ◌≤◌, sym, ap, ap₂, ◌∙◌, arith}
use Rattle.std.specs.Prelude.{ℤ, pos, neg_ℤ, ◌+ℤ◌, ◌-ℤ◌, ◌*ℤ◌, unsigned_abs}
use Rattle.std.proofs.lemmas.Int.{ints, unsigned_abs-mul}
use Rattle.std.proofs.Math.Nat.{mul-le-mul, mul-le-mul_left, mul-le-mul_right, le_of_mul-le-mul_left}
use Rattle.ct_words.specs.Counting.Alternating.{total_below, sign}
use Rattle.ct_words.specs.Counting.Binomials.{choose, factorial}
use Rattle.ct_words.proofs.Counting.Alternating.{unsigned_abs-sub}
use Rattle.ct_words.proofs.Counting.Choices.{choose-absorb_any, choose-product-le, factorial-product-le}
use Rattle.ct_words.proofs.Counting.Products.{int_mul_assoc, int_mul_comm, int_mul_neg, int_neg_mul}
use Rattle.ct_words.proofs.Counting.Convolutions.{convolution, total_below-congruence, total_below-convolution, convolution-recurrence}

-- how many ways there are to match j of a things with j of b others
abbrev pub matchings : ℕ → ℕ → ℕ → ℕ
matchings a b j = choose a j * choose b j * factorial j

-- the sum over j of (-1)^j C(c,j)^2 j! C(a,k - j) C(b,k - j) (k - j)!
unfoldable pub signed_matchings : ℕ → ℕ → ℕ → ℕ → ℤ
signed_matchings a b c k = total_below (λ j. sign j *ℤ pos (choose c j * choose c j * factorial j * choose a (k - j) * choose b (k - j) * factorial (k - j))) (suc k)

-- the two sequences of which it is the convolution
abbrev pub negative_matchings : ℕ → ℕ → ℤ
negative_matchings c j = sign j *ℤ pos (matchings c c j)

abbrev pub positive_matchings : ℕ → ℕ → ℕ → ℤ
positive_matchings a b j = pos (matchings a b j)

-- a product of six, as the product of its two halves
regroup : (s : ℤ) (x y f p q g : ℕ) → s *ℤ pos (x * y * f * p * q * g) ≡ (s *ℤ pos (x * y * f)) *ℤ pos (p * q * g)
regroup s x y f p q g =
    let e : x * y * f * p * q * g ≡ (x * y * f) * (p * q * g) = omega arith in
    ap (λ m. s *ℤ pos m) e ∙ sym (int_mul_assoc s (pos (x * y * f)) (pos (p * q * g)))

-- the sum is their convolution
pub signed_matchings-convolution : (a b c k : ℕ) → signed_matchings a b c k ≡ convolution (negative_matchings c) (positive_matchings a b) k
unfolding signed_matchings
signed_matchings-convolution a b c k =
    total_below-congruence (λ j. sign j *ℤ pos (choose c j * choose c j * factorial j * choose a (k - j) * choose b (k - j) * factorial (k - j)))
    (λ j. negative_matchings c j *ℤ positive_matchings a b (k - j)) (suc k)
    (λ j l. regroup (sign j) (choose c j) (choose c j) (factorial j) (choose a (k - j)) (choose b (k - j)) (factorial (k - j)))
    ∙ total_below-convolution (negative_matchings c) (positive_matchings a b) k

-- none matched: one way
pub signed_matchings-first : (a b c : ℕ) → signed_matchings a b c 0 ≡ pos 1
signed_matchings-first a b c = signed_matchings-convolution a b c 0

-- a matching of j + 1 pairs, one of them marked, is a pair and a matching of the others
pub matchings-suc : (a b j : ℕ) → suc j * matchings a b (suc j) ≡ (a * b) * matchings (a - 1) (b - 1) j
matchings-suc a b j =
    let split : suc j * (choose a (suc j) * choose b (suc j) * (suc j * factorial j)) ≡ (suc j * choose a (suc j)) * (suc j * choose b (suc j)) * factorial j = omega arith in
    let both : (suc j * choose a (suc j)) * (suc j * choose b (suc j)) * factorial j ≡ (a * choose (a - 1) j) * (b * choose (b - 1) j) * factorial j =
    ap₂ (λ p q. p * q * factorial j) (choose-absorb_any a j) (choose-absorb_any b j) in
    let joined : (a * choose (a - 1) j) * (b * choose (b - 1) j) * factorial j ≡ (a * b) * matchings (a - 1) (b - 1) j = omega arith in
    split ∙ both ∙ joined

-- so are the terms of the two sequences
positive-suc : (a b j : ℕ) → pos (suc j) *ℤ positive_matchings a b (suc j) ≡ pos (a * b) *ℤ positive_matchings (a - 1) (b - 1) j
positive-suc a b j = ap pos (matchings-suc a b j)

-- an equation between two counts, with the sign of the next term on one side
turn : (s : ℤ) (k x c y : ℕ) → k * x ≡ c * y → pos k *ℤ (neg_ℤ s *ℤ pos x) ≡ neg_ℤ (pos c) *ℤ (s *ℤ pos y)
turn s k x c y e =
    ap (λ z. pos k *ℤ z) (int_mul_comm (neg_ℤ s) (pos x))
    ∙ sym (int_mul_assoc (pos k) (pos x) (neg_ℤ s))
    ∙ ap (λ m. pos m *ℤ neg_ℤ s) e
    ∙ int_mul_neg (pos (c * y)) s
    ∙ ap neg_ℤ (int_mul_assoc (pos c) (pos y) s ∙ ap (λ z. pos c *ℤ z) (int_mul_comm (pos y) s))
    ∙ sym (int_neg_mul (pos c) (s *ℤ pos y))

-- for the terms that count -1, too
negative-suc : (c j : ℕ) → pos (suc j) *ℤ negative_matchings c (suc j) ≡ neg_ℤ (pos (c * c)) *ℤ negative_matchings (c - 1) j
negative-suc c j = turn (sign j) (suc j) (matchings c c (suc j)) (c * c) (matchings (c - 1) (c - 1) j) (matchings-suc c c j)

-- a negated number added is the number taken off
add_negated : (x p q : ℤ) → x ≡ neg_ℤ p → x +ℤ q ≡ q -ℤ p
add_negated x p q e = omega (arith, ints)

-- the recurrence
pub signed_matchings-suc : (a b c k : ℕ) → pos (suc k) *ℤ signed_matchings a b c (suc k) ≡ (pos (a * b) *ℤ signed_matchings (a - 1) (b - 1) c k) -ℤ (pos (c * c) *ℤ signed_matchings a b (c - 1) k)
signed_matchings-suc a b c k =
    let fewer = convolution (negative_matchings (c - 1)) (positive_matchings a b) k in
    let smaller = convolution (negative_matchings c) (positive_matchings (a - 1) (b - 1)) k in
    ap (λ z. pos (suc k) *ℤ z) (signed_matchings-convolution a b c (suc k))
    ∙ convolution-recurrence (negative_matchings c) (positive_matchings a b) (negative_matchings (c - 1)) (positive_matchings (a - 1) (b - 1)) (neg_ℤ (pos (c * c))) (pos (a * b)) (negative-suc c) (positive-suc a b) k
    ∙ add_negated (neg_ℤ (pos (c * c)) *ℤ fewer) (pos (c * c) *ℤ fewer) (pos (a * b) *ℤ smaller) (int_neg_mul (pos (c * c)) fewer)
    ∙ ap₂ (λ p q. (pos (a * b) *ℤ p) -ℤ (pos (c * c) *ℤ q)) (sym (signed_matchings-convolution (a - 1) (b - 1) c k)) (sym (signed_matchings-convolution a b (c - 1) k))

-- a bound on the absolute value, from the recurrence
scaled-le : (k p q u v m : ℕ) (x y z : ℤ) → pos (suc k) *ℤ x ≡ (pos p *ℤ y) -ℤ (pos q *ℤ z) → p * unsigned_abs y ≤ p * m → q * unsigned_abs z ≤ q * m → p + q ≤ u → suc k * v ≡ u * m → unsigned_abs x ≤ v
scaled-le k p q u v m x y z e f g h i =
    let whole = ap unsigned_abs e in
    let left = unsigned_abs-mul (pos (suc k)) x in
    let sum = unsigned_abs-sub (pos p *ℤ y) (pos q *ℤ z) in
    let first = unsigned_abs-mul (pos p) y in
    let second = unsigned_abs-mul (pos q) z in
    let most = mul-le-mul_right m h in
    let scaled : suc k * unsigned_abs x ≤ suc k * v = omega arith in
    le_of_mul-le-mul_left scaled (omega arith)

-- a pair less on either side of the recurrence; where there is none, its factor is 0
abbrev IsBounded : ℕ → Type 0
IsBounded k = (a b c : ℕ) → unsigned_abs (signed_matchings a b c k) ≤ matchings (a + c) (b + c) k

positive-le : (a b c k : ℕ) → IsBounded k → a * b * unsigned_abs (signed_matchings (a - 1) (b - 1) c k) ≤ a * b * matchings (a + c - 1) (b + c - 1) k
positive-le zero b c k h = omega arith
positive-le (suc a) zero c k h = omega arith
positive-le (suc a) (suc b) c k h =
    let bound = h (suc a - 1) (suc b - 1) c in
    let a_is : suc a - 1 + c ≡ suc a + c - 1 = omega arith in
    let b_is : suc b - 1 + c ≡ suc b + c - 1 = omega arith in
    let same = ap₂ (λ p q. matchings p q k) a_is b_is in
    mul-le-mul_left (suc a * suc b) (omega arith)

negative-le : (a b c k : ℕ) → IsBounded k → c * c * unsigned_abs (signed_matchings a b (c - 1) k) ≤ c * c * matchings (a + c - 1) (b + c - 1) k
negative-le a b zero k h = omega arith
negative-le a b (suc c) k h =
    let bound = h a b (suc c - 1) in
    let a_is : a + (suc c - 1) ≡ a + suc c - 1 = omega arith in
    let b_is : b + (suc c - 1) ≡ b + suc c - 1 = omega arith in
    let same = ap₂ (λ p q. matchings p q k) a_is b_is in
    mul-le-mul_left (suc c * suc c) (omega arith)

-- a signed count is at most the count of all: of the matchings of a + c with b + c things
pub signed_matchings-le : (a b c k : ℕ) → unsigned_abs (signed_matchings a b c k) ≤ matchings (a + c) (b + c) k
signed_matchings-le a b c zero = let e = ap unsigned_abs (signed_matchings-first a b c) in omega arith
signed_matchings-le a b c (suc k) =
    let ih : IsBounded k = λ a' b' c'. signed_matchings-le a' b' c' k in
    scaled-le k (a * b) (c * c) ((a + c) * (b + c)) (matchings (a + c) (b + c) (suc k)) (matchings (a + c - 1) (b + c - 1) k)
    (signed_matchings a b c (suc k)) (signed_matchings (a - 1) (b - 1) c k) (signed_matchings a b (c - 1) k)
    (signed_matchings-suc a b c k) (positive-le a b c k ih) (negative-le a b c k ih) (omega arith) (matchings-suc (a + c) (b + c) k)

-- matchings of parts of two sets, with as many pairs in all, are no more than the matchings of the sets
pub matchings-product-le : (a b c j k : ℕ) → matchings c c j * matchings a b k ≤ matchings (a + c) (b + c) (k + j)
matchings-product-le a b c j k =
    let p = choose-product-le a c k j in
    let q = choose-product-le b c k j in
    let f = factorial-product-le k j in
    let pq = mul-le-mul p q in
    let all = mul-le-mul pq f in
    omega arith
