-- Words that are put together: their digits, weights and distances are those of their parts.
use Rattle.std.proofs.Common.{◌≡◌, ℕ, zero, suc, ◌+◌, ◌-◌, ◌*◌, ◌/◌, ◌%◌, ◌^◌, ◌<◌, ◌≤◌, Bool, List, All, ap, ap₂, ◌∙◌, arith, pow-add}
use Rattle.std.specs.Prelude.{not, ◌==◌, bit_or}
use Rattle.std.proofs.Math.Nat.{pow-le-pow_right}
use Rattle.std.proofs.lemmas.List.Elements.{All-weaker}
use Rattle.std.proofs.lemmas.Nat.{mul-add-lt, or_shifted, shl_whole}
use Rattle.std.proofs.lemmas.Nat.Bits.{bit_at_cat_low, bit_at_cat_high}
use Rattle.ct_words.specs.Word.{places, digit, weight, distance}
use Rattle.ct_words.proofs.WordLemmas.{places_same}
use Rattle.ct_words.specs.Constructions.Joined.{followed_by}

-- a count over n + m places is one over the first n and one over the m others
pub places-add : (f : ℕ → Bool) (n m : ℕ) → places f (n + m) ≡ places f n + places (λ q. f (n + q)) m
places-add f n zero = let e : n + 0 ≡ n = omega arith in ap (places f) e ∙ omega arith
places-add f n (suc m) =
    let e : n + suc m ≡ suc (n + m) = omega arith in
    let ih = places-add f n m in
    ap (places f) e ∙ omega arith

-- the digits of x, and then those of y
pub digit-front : (n m x y p : ℕ) → y < 2 ^ m → p < n → digit (n + m) (followed_by m x y) p ≡ digit n x p
digit-front n m x y p below within =
    let place : n + m - 1 - p - m ≡ n - 1 - p = omega arith in
    bit_at_cat_high x m y (n + m - 1 - p) below (omega arith) ∙ ap (λ i. x / 2 ^ i % 2) place

pub digit-back : (n m x y q : ℕ) → q < m → digit (n + m) (followed_by m x y) (n + q) ≡ digit m y q
digit-back n m x y q within =
    let place : n + m - 1 - (n + q) ≡ m - 1 - q = omega arith in
    ap (λ i. followed_by m x y / 2 ^ i % 2) place ∙ bit_at_cat_low x m y (m - 1 - q) (omega arith)

-- it is a word of both lengths together
pub followed_by-lt : (n m x y : ℕ) → x < 2 ^ n → y < 2 ^ m → followed_by m x y < 2 ^ (n + m)
followed_by-lt n m x y front back =
    let whole = mul-add-lt x (2 ^ m) y (2 ^ n) front back in
    let power = pow-add 2 n m in
    omega arith

-- the weights of both parts
pub weight-followed_by : (n m x y : ℕ) → y < 2 ^ m → weight (n + m) (followed_by m x y) ≡ weight n x + weight m y
unfolding weight
weight-followed_by n m x y below =
    places-add (λ p. digit (n + m) (followed_by m x y) p == 1) n m
    ∙ ap₂ (λ i j. i + j)
    (places_same (λ p. digit (n + m) (followed_by m x y) p == 1) (λ p. digit n x p == 1) n
    (λ p h. ap (λ a. a == 1) (digit-front n m x y p below h)))
    (places_same (λ q. digit (n + m) (followed_by m x y) (n + q) == 1) (λ q. digit m y q == 1) m
    (λ q h. ap (λ a. a == 1) (digit-back n m x y q h)))

-- the distances of both parts
pub distance-followed_by : (n m x y x' y' : ℕ) → y < 2 ^ m → y' < 2 ^ m
    → distance (n + m) (followed_by m x y) (followed_by m x' y') ≡ distance n x x' + distance m y y'
unfolding distance
distance-followed_by n m x y x' y' below below' =
    let z = followed_by m x y in
    let z' = followed_by m x' y' in
    places-add (λ p. not (digit (n + m) z p == digit (n + m) z' p)) n m
    ∙ ap₂ (λ i j. i + j)
    (places_same (λ p. not (digit (n + m) z p == digit (n + m) z' p)) (λ p. not (digit n x p == digit n x' p)) n
    (λ p h. ap₂ (λ a b. not (a == b)) (digit-front n m x y p below h) (digit-front n m x' y' p below' h)))
    (places_same (λ q. not (digit (n + m) z (n + q) == digit (n + m) z' (n + q))) (λ q. not (digit m y q == digit m y' q)) m
    (λ q h. ap₂ (λ a b. not (a == b)) (digit-back n m x y q h) (digit-back n m x' y' q h)))

-- what a shift and an or make of two words with no more digits than a machine word
pub or-followed_by : (n m x y : ℕ) → x < 2 ^ n → y < 2 ^ m → n + m ≤ 32 → bit_or (x * 2 ^ m % 2 ^ 32) y ≡ followed_by m x y
or-followed_by n m x y front back short = ap (λ z. bit_or z y) (shl_whole x n m 32 front short) ∙ or_shifted x m y back

-- words of one length are below the powers for greater ones
pub words_wider : (n k : ℕ) (xs : List ℕ) → n ≤ k → All (λ x. x < 2 ^ n) xs → All (λ x. x < 2 ^ k) xs
words_wider n k xs more below =
    let powers : 2 ^ n ≤ 2 ^ k = pow-le-pow_right (omega arith) more in
    All-weaker (λ x. x < 2 ^ n) (λ x. x < 2 ^ k) (λ x h. omega arith) xs below
