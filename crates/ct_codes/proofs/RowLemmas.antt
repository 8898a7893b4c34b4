-- The distances from a word to the words of a block, digit by digit.
use Rattle.std.proofs.Common.{◌≡◌, ℕ, zero, suc, ◌+◌, ◌*◌, ◌/◌, ◌%◌, ◌<◌, ◌≤◌, ◌^◌, ◌==◌, not, nat_lt, List, length, map, get_or, sym, refl, ap, ap₂, ◌∙◌, inl, inr, arith, pow-suc, Bool}
use Rattle.std.specs.Prelude.{min}
use lib.Lanes.{chunk, zip2}
use native.Mathlib.Nat.{div-one, div-div-eq-div-mul}
use Rattle.std.proofs.lemmas.Nat.{mod_below}
use Rattle.std.proofs.lemmas.Bool.{cases_lt, le-ltb, lt-ltb}
use Rattle.std.proofs.lemmas.Grind.{same_number_lists}
use Rattle.std.proofs.lemmas.List.{length-map, get_or-map}
use Rattle.std.proofs.lemmas.Simd.{length-chunk, get_or-chunk, length-zip2, map-map}
use Rattle.ct_words.specs.Word.{digit, distance}
use Rattle.ct_words.proofs.WordLemmas.{one, places_same, last_digit, digit_half, distance-le}
use Rattle.ct_codes.specs.Inside.Rows.{AreRows}

-- the distance of two words is that of their halves, and one more where their last digits differ
abbrev differ : ℕ → ℕ → ℕ
differ a b = one (not (a == b))

distance-suc : (n x y : ℕ) → distance (suc n) x y ≡ differ (x % 2) (y % 2) + distance n (x / 2) (y / 2)
unfolding distance
distance-suc n x y =
    ap₂ (λ i j. i + j) (ap₂ differ (last_digit n x) (last_digit n y))
    (places_same (λ p. not (digit (suc n) x p == digit (suc n) y p)) (λ p. not (digit n (x / 2) p == digit n (y / 2) p)) n
    (λ p h. ap₂ (λ a b. not (a == b)) (digit_half n x p h) (digit_half n y p h)))

-- and four digits more
distance-four : (n x y : ℕ) → distance (suc (suc (suc (suc n)))) x y
    ≡ differ (x % 2) (y % 2) + (differ (x / 2 % 2) (y / 2 % 2) + (differ (x / 2 / 2 % 2) (y / 2 / 2 % 2) + (differ (x / 2 / 2 / 2 % 2) (y / 2 / 2 / 2 % 2)
    + distance n (x / 2 / 2 / 2 / 2) (y / 2 / 2 / 2 / 2))))
distance-four n x y =
    distance-suc (suc (suc (suc n))) x y
    ∙ ap (λ z. differ (x % 2) (y % 2) + z) (distance-suc (suc (suc n)) (x / 2) (y / 2)
    ∙ ap (λ z. differ (x / 2 % 2) (y / 2 % 2) + z) (distance-suc (suc n) (x / 2 / 2) (y / 2 / 2)
    ∙ ap (λ z. differ (x / 2 / 2 % 2) (y / 2 / 2 % 2) + z) (distance-suc n (x / 2 / 2 / 2) (y / 2 / 2 / 2))))

-- words that agree in four digits
four_same : (x : ℕ) → (x % 16 % 2 ≡ x % 2) × (x % 16 / 2 % 2 ≡ x / 2 % 2) × (x % 16 / 2 / 2 % 2 ≡ x / 2 / 2 % 2) × (x % 16 / 2 / 2 / 2 % 2 ≡ x / 2 / 2 / 2 % 2)
    × (x / 2 / 2 / 2 / 2 ≡ x / 16)
four_same x = (omega arith, omega arith, omega arith, omega arith, omega arith)

distance-none : (x y : ℕ) → distance 0 x y ≡ 0
unfolding distance
distance-none x y = refl

-- the distance of two words is that of their last four digits and that of the rest
distance-digits : (n x y : ℕ) → distance (suc (suc (suc (suc n)))) x y ≡ distance 4 (x % 16) (y % 16) + distance n (x / 16) (y / 16)
distance-digits n x y =
    let a = four_same x in
    let b = four_same y in
    let low = distance-four 0 (x % 16) (y % 16) in
    let none = distance-none (x % 16 / 2 / 2 / 2 / 2) (y % 16 / 2 / 2 / 2 / 2) in
    let p = ap₂ differ a.0 b.0 in
    let q = ap₂ differ a.1 b.1 in
    let r = ap₂ differ a.2 b.2 in
    let s = ap₂ differ a.3 b.3 in
    let rest = ap₂ (distance n) a.4 b.4 in
    let whole = distance-four n x y in
    omega arith

-- the distance of the hexadecimal digits at a place
abbrev pub apart : ℕ → ℕ → ℕ → ℕ
apart p x y = distance 4 (x / 16 ^ p % 16) (y / 16 ^ p % 16)

pub apart-le : (p x y : ℕ) → apart p x y ≤ 4
apart-le p x y = distance-le 4 (x / 16 ^ p % 16) (y / 16 ^ p % 16)

-- the digit at the next place is one of the rest
apart-next : (p x y : ℕ) → apart (suc p) x y ≡ apart p (x / 16) (y / 16)
apart-next p x y = ap₂ (λ a b. distance 4 (a % 16) (b % 16)) (next x) (next y)
  where
    next : (z : ℕ) → z / 16 ^ suc p ≡ z / 16 / 16 ^ p
    next z =
        let more = pow-suc 16 p in
        let power : 16 ^ suc p ≡ 16 * 16 ^ p = omega arith in
        ap (λ q. z / q) power ∙ sym (div-div-eq-div-mul z 16 (16 ^ p))

-- the distances of the first k digits from the last one on
abbrev pub digits_apart : ℕ → ℕ → ℕ → ℕ
digits_apart zero x y = 0
digits_apart (suc k) x y = digits_apart k x y + apart k x y

digits_apart-suc : (k x y : ℕ) → digits_apart (suc k) x y ≡ apart 0 x y + digits_apart k (x / 16) (y / 16)
digits_apart-suc zero x y = omega arith
digits_apart-suc (suc k) x y =
    let before = digits_apart-suc k x y in
    let next = apart-next k x y in
    omega arith

-- four binary digits for each
abbrev length_of : ℕ → ℕ
length_of zero = 0
length_of (suc k) = suc (suc (suc (suc (length_of k))))

distance-digits_apart : (k x y : ℕ) → distance (length_of k) x y ≡ digits_apart k x y
distance-digits_apart zero x y = distance-none x y
distance-digits_apart (suc k) x y =
    distance-digits (length_of k) x y
    ∙ ap₂ (λ i j. i + j) (ap₂ (λ a b. distance 4 (a % 16) (b % 16)) (sym (div-one x)) (sym (div-one y))) (distance-digits_apart k (x / 16) (y / 16))
    ∙ sym (digits_apart-suc k x y)

-- eight digits
pub digits_apart-eight : (x y : ℕ) → digits_apart 8 x y ≡ distance 32 x y
digits_apart-eight x y = sym (distance-digits_apart 8 x y)

-- a power of 16, as one of 2
pub sixteen : (p : ℕ) → 2 ^ (p * 4) ≡ 16 ^ p
sixteen zero = refl
sixteen (suc p) =
    let more : suc p * 4 ≡ suc (suc (suc (suc (p * 4)))) = omega arith in
    let a = pow-suc 2 (suc (suc (suc (p * 4)))) in
    let b = pow-suc 2 (suc (suc (p * 4))) in
    let c = pow-suc 2 (suc (p * 4)) in
    let d = pow-suc 2 (p * 4) in
    let e = pow-suc 16 p in
    let before = sixteen p in
    ap (λ q. 2 ^ q) more ∙ omega arith

-- a row of the rows of a block
pub row_is : (rows block : List ℕ) (word place : ℕ) → length block ≡ 64 → AreRows rows block → place < 8
    → chunk ((place * 16 + word / 16 ^ place % 16) * 64) 64 rows ≡ map (apart place word) block
row_is rows block word place long are low = go (word / 16 ^ place % 16) (mod_below (word / 16 ^ place) 16 (omega arith))
  where
    go : (v : ℕ) → v < 16 → chunk ((place * 16 + v) * 64) 64 rows ≡ map (λ x. distance 4 v (x / 16 ^ place % 16)) block
    go v small =
        let start = (place * 16 + v) * 64 in
        let f = λ (x : ℕ). distance 4 v (x / 16 ^ place % 16) in
        let rows_long = are.size in
        let size = length-chunk start 64 rows (omega arith) in
        let mapped = length-map block f in
        same_number_lists (chunk start 64 rows) (map f block) (omega arith) (λ k h.
        let inside : k < 64 = omega arith in
        let v_is : (start + k) / 64 % 16 ≡ v = omega arith in
        let k_is : (start + k) % 64 ≡ k = omega arith in
        let place_is : (start + k) / 1024 ≡ place = omega arith in
        get_or-chunk start 64 rows k 0 inside ∙ are.entries (start + k) (omega arith)
        ∙ ap₂ (λ a b. distance 4 a (b % 16)) v_is (ap₂ (λ a b. get_or block a 0 / 16 ^ b) k_is place_is)
        ∙ sym (get_or-map f block k 0 0 (omega arith)))

-- sums of eight small numbers, in lanes of bytes
pub eight_sums : (word x : ℕ) → (((((((apart 0 word x + apart 1 word x) % 256 + apart 2 word x) % 256 + apart 3 word x) % 256 + apart 4 word x) % 256
    + apart 5 word x) % 256 + apart 6 word x) % 256 + apart 7 word x) % 256 ≡ distance 32 word x
eight_sums word x =
    let a = apart-le 0 word x in
    let b = apart-le 1 word x in
    let c = apart-le 2 word x in
    let d = apart-le 3 word x in
    let e = apart-le 4 word x in
    let f = apart-le 5 word x in
    let g = apart-le 6 word x in
    let h = apart-le 7 word x in
    let whole : 0 + apart 0 word x + apart 1 word x + apart 2 word x + apart 3 word x + apart 4 word x + apart 5 word x + apart 6 word x + apart 7 word x
    ≡ distance 32 word x = digits_apart-eight word x in
    omega arith

-- a distance is below d where it is below 33 as well
pub below_limit : (word d : ℕ) (block : List ℕ) → map (λ e. nat_lt e (min d 33)) (map (distance 32 word) block) ≡ map (λ x. nat_lt (distance 32 word x) d) block
below_limit word d block =
    map-map (λ e. nat_lt e (min d 33)) (distance 32 word) block ∙ ap (λ (f : ℕ → Bool). map f block) (λ i x. same (distance 32 word x) (distance-le 32 word x) i)
  where
    same : (e : ℕ) → e ≤ 32 → nat_lt e (min d 33) ≡ nat_lt e d
    same e small = elim (cases_lt e d) [
      | inl less ↦ lt-ltb e (min d 33) (omega arith) ∙ sym (lt-ltb e d less)
      | inr more ↦ le-ltb e (min d 33) (omega arith) ∙ sym (le-ltb e d more)
    ]

-- a sum in lanes has as many lanes
pub sum_long : (xs ys : List ℕ) → length xs ≡ 64 → length ys ≡ 64 → length (zip2 (λ a b. (a + b) % 256) xs ys) ≡ 64
sum_long xs ys long also = length-zip2 (λ a b. (a + b) % 256) xs ys (long ∙ sym also) ∙ long
