-- Digits, weights and distances of words, and sums without carry.
use Rattle.std.proofs.Common.{◌≡◌, ℕ, zero, suc, ◌+◌, ◌-◌, ◌*◌, ◌/◌, ◌%◌, ◌^◌, ◌<◌, ◌≤◌, ◌≢◌, Bool, true, false, not, ◌&&◌, ◌==◌, if◌then◌else◌, bit_xor, count_ones, sym, refl, ap, ap₂, ◌∙◌, inl, inr, arith, pow-suc, eq-eqb, eqb-true, ne_eqb, shr-shr, div-one, pow_pos}
use lib.Count.{ones_step}
use Rattle.std.proofs.lemmas.Nat.{xor_lt, ones_le_self, div_below, mod_below, mod-mul-add, div-mul-add}
use Rattle.std.proofs.lemmas.Nat.Bits.{bit_at_xor, bit_at-lt, same_from_bits_below}
use Rattle.std.proofs.lemmas.Bool.{cases_order, cases_eq, not-false}
use Rattle.std.proofs.lemmas.Bool.Decides.{nat_tests}
use Rattle.ct_words.specs.Word.{places, digit, weight, distance, IsSum}

-- 1 where the test holds, else 0
abbrev pub one : Bool → ℕ
one b = if b then 1 else 0

-- how many places pass is told by the tests of the places below n
pub places_same : (f g : ℕ → Bool) (n : ℕ) → ((p : ℕ) → p < n → f p ≡ g p) → places f n ≡ places g n
places_same f g zero same = refl
places_same f g (suc n) same =
    ap₂ (λ i j. i + j) (ap one (same n (omega arith))) (places_same f g n (λ p h. same p (omega arith)))

-- where each place counts at most as much as for two other tests together, so do they all
pub places_within_two : (f g h : ℕ → Bool) (n : ℕ) → ((p : ℕ) → p < n → one (f p) ≤ one (g p) + one (h p)) → places f n ≤ places g n + places h n
places_within_two f g h zero each = omega arith
places_within_two f g h (suc n) each =
    let here = each n (omega arith) in
    let before = places_within_two f g h n (λ p within. each p (omega arith)) in
    omega arith

-- where each place counts for two tests what it counts for a third and twice a fourth, so do they all
pub places_of_pair : (f g h k : ℕ → Bool) (n : ℕ) → ((p : ℕ) → p < n → one (f p) + one (g p) ≡ one (h p) + 2 * one (k p))
    → places f n + places g n ≡ places h n + 2 * places k n
places_of_pair f g h k zero each = refl
places_of_pair f g h k (suc n) each =
    let here = each n (omega arith) in
    let before = places_of_pair f g h k n (λ p within. each p (omega arith)) in
    omega arith

-- at most n places pass
pub places-le : (f : ℕ → Bool) (n : ℕ) → places f n ≤ n
places-le f zero = omega arith
places-le f (suc n) = let before = places-le f n in go (f n) before
  where
    go : (b : Bool) → places f n ≤ n → one b + places f n ≤ suc n
    go true before = omega arith
    go false before = omega arith

-- none passes where none does
pub places-none : (f : ℕ → Bool) (n : ℕ) → ((p : ℕ) → p < n → f p ≡ false) → places f n ≡ 0
places-none f zero each = refl
places-none f (suc n) each =
    ap₂ (λ i j. i + j) (ap one (each n (omega arith))) (places-none f n (λ p h. each p (omega arith)))

-- no place passes where the count is 0
pub none_from_places : (f : ℕ → Bool) (n : ℕ) → places f n ≡ 0 → (p : ℕ) → p < n → f p ≡ false
none_from_places f zero e p h = absurd (omega arith)
none_from_places f (suc n) e p h =
    elim (cases_order p n) [
      | inl same ↦ ap f same ∙ last (f n) refl
      | inr apart ↦ none_from_places f n (before (f n) e) p (omega arith)
    ]
  where
    last : (b : Bool) → f n ≡ b → f n ≡ false
    last false is = is
    last true is = let here = ap one is in absurd (omega arith)

    before : (b : Bool) → one b + places f n ≡ 0 → places f n ≡ 0
    before b zero_in_all = omega arith

-- a digit is 0 or 1
pub digit-lt : (n x p : ℕ) → digit n x p < 2
digit-lt n x p = bit_at-lt x (n - 1 - p)

-- the last digit
pub last_digit : (n x : ℕ) → digit (suc n) x n ≡ x % 2
last_digit n x = let place : suc n - 1 - n ≡ 0 = omega arith in rw place (ap (λ q. q % 2) (div-one x))

-- the other digits are those of the half
pub digit_half : (n x p : ℕ) → p < n → digit (suc n) x p ≡ digit n (x / 2) p
digit_half n x p h =
    let place : suc n - 1 - p ≡ 1 + (n - 1 - p) = omega arith in
    rw place (ap (λ q. q % 2) (sym (shr-shr x 1 (n - 1 - p))))

-- a word is determined by its digits
pub same_from_digits : (n x y : ℕ) → x < 2 ^ n → y < 2 ^ n → ((p : ℕ) → p < n → digit n x p ≡ digit n y p) → x ≡ y
same_from_digits n x y below_x below_y same =
    same_from_bits_below n x y below_x below_y (λ i h.
    let at = same (n - 1 - i) (omega arith) in
    let place : n - 1 - (n - 1 - i) ≡ i = omega arith in
    rw place at at)

-- the weight of a word is that of its half and its last digit
pub weight-suc : (n x : ℕ) → weight (suc n) x ≡ x % 2 + weight n (x / 2)
unfolding weight
weight-suc n x =
    ap₂ (λ i j. i + j) (ap (λ q. one (q == 1)) (last_digit n x) ∙ one_is (x % 2) (mod_below x 2 (omega arith)))
    (places_same (λ p. digit (suc n) x p == 1) (λ p. digit n (x / 2) p == 1) n (λ p h. ap (λ q. q == 1) (digit_half n x p h)))
  where
    one_is : (q : ℕ) → q < 2 → one (q == 1) ≡ q
    one_is zero h = refl
    one_is (suc zero) h = refl
    one_is (suc (suc q)) h = absurd (omega arith)

-- the weight is the number of binary ones
pub weight-count_ones : (n x : ℕ) → x < 2 ^ n → count_ones x ≡ weight n x
unfolding weight
weight-count_ones zero x h = let few = ones_le_self x in omega arith
weight-count_ones (suc n) x h =
    let more = pow-suc 2 n in
    ones_step x ∙ ap (λ z. x % 2 + z) (weight-count_ones n (x / 2) (div_below x 2 (2 ^ n) (omega arith) (omega arith))) ∙ sym (weight-suc n x)

-- the exclusive or of two words is their sum without carry
pub IsSum-bit_xor : (n x y : ℕ) → x < 2 ^ n → y < 2 ^ n → IsSum n x y (bit_xor x y)
IsSum-bit_xor n x y below_x below_y =
    record { word = xor_lt n x y below_x below_y; digits = λ p h. bit_at_xor x y (n - 1 - p) }

-- a sum of two digits is odd where they differ
differ_is : (a b : ℕ) → a < 2 → b < 2 → not (a == b) ≡ ((a + b) % 2 == 1)
differ_is zero zero h k = refl
differ_is zero (suc zero) h k = refl
differ_is zero (suc (suc b)) h k = absurd (omega arith)
differ_is (suc zero) zero h k = refl
differ_is (suc zero) (suc zero) h k = refl
differ_is (suc zero) (suc (suc b)) h k = absurd (omega arith)
differ_is (suc (suc a)) b h k = absurd (omega arith)

-- the distance of two words is the weight of their sum
pub distance-is_weight : (n x y z : ℕ) → IsSum n x y z → distance n x y ≡ weight n z
unfolding distance weight
distance-is_weight n x y z sum =
    places_same (λ p. not (digit n x p == digit n y p)) (λ p. digit n z p == 1) n
    (λ p h. differ_is (digit n x p) (digit n y p) (digit-lt n x p) (digit-lt n y p) ∙ ap (λ q. q == 1) (sym (sum.digits p h)))

-- the distance is the same from either word
pub distance_comm : (n x y : ℕ) → distance n x y ≡ distance n y x
unfolding distance
distance_comm n x y =
    places_same (λ p. not (digit n x p == digit n y p)) (λ p. not (digit n y p == digit n x p)) n (λ p h. ap not (eqb_comm (digit n x p) (digit n y p)))
  where
    eqb_comm : (a b : ℕ) → (a == b) ≡ (b == a)
    eqb_comm a b = elim (cases_eq a b) [ inl e ↦ eq-eqb a b e ∙ sym (eq-eqb b a (sym e)) | inr e ↦ ne_eqb a b e ∙ sym (ne_eqb b a (λ q. e (sym q))) ]

-- a word has distance 0 to itself
pub distance_same : (n x : ℕ) → distance n x x ≡ 0
unfolding distance
distance_same n x = places-none (λ p. not (digit n x p == digit n x p)) n (λ p h. ap not (eq-eqb (digit n x p) (digit n x p) refl))

-- words of distance 0 are equal
pub same_from_distance : (n x y : ℕ) → x < 2 ^ n → y < 2 ^ n → distance n x y ≡ 0 → x ≡ y
unfolding distance
same_from_distance n x y below_x below_y e =
    same_from_digits n x y below_x below_y (λ p h.
    eqb-true (digit n x p) (digit n y p)
    (not-false (digit n x p == digit n y p) (none_from_places (λ p. not (digit n x p == digit n y p)) n e p h)))

-- different words have a distance of at least 1
pub distance-pos : (n x y : ℕ) → x < 2 ^ n → y < 2 ^ n → x ≢ y → 1 ≤ distance n x y
distance-pos n x y below_x below_y other =
    elim (cases_eq (distance n x y) 0) [ inl e ↦ absurd (other (same_from_distance n x y below_x below_y e)) | inr e ↦ omega arith ]

-- a distance is at most the length
pub distance-le : (n x y : ℕ) → distance n x y ≤ n
unfolding distance
distance-le n x y = places-le (λ p. not (digit n x p == digit n y p)) n

-- a weight is at most the length
pub weight-le : (n x : ℕ) → weight n x ≤ n
unfolding weight
weight-le n x = places-le (λ p. digit n x p == 1) n

-- the triangle inequality
pub distance-triangle : (n x y z : ℕ) → distance n x z ≤ distance n x y + distance n y z
unfolding distance
distance-triangle n x y z =
    places_within_two (λ p. not (digit n x p == digit n z p)) (λ p. not (digit n x p == digit n y p)) (λ p. not (digit n y p == digit n z p)) n
    (λ p h. differ_within (digit n x p) (digit n y p) (digit n z p))
  where
    differ_within : (a b c : ℕ) → one (not (a == c)) ≤ one (not (a == b)) + one (not (b == c))
    differ_within a b c = grind (arith, nat_tests)

-- the place counts for the weights of two words what it counts for their distance, and twice where both have a one
pub weights_of_pair : (n x y : ℕ) → weight n x + weight n y ≡ distance n x y + 2 * places (λ p. digit n x p == 1 && digit n y p == 1) n
unfolding weight distance
weights_of_pair n x y =
    places_of_pair (λ p. digit n x p == 1) (λ p. digit n y p == 1) (λ p. not (digit n x p == digit n y p)) (λ p. digit n x p == 1 && digit n y p == 1) n
    (λ p h. one_and_one (digit n x p) (digit n y p) (digit-lt n x p) (digit-lt n y p))
  where
    one_and_one : (a b : ℕ) → a < 2 → b < 2 → one (a == 1) + one (b == 1) ≡ one (not (a == b)) + 2 * one (a == 1 && b == 1)
    one_and_one a b h k = grind (arith, nat_tests)

-- a sum with one word keeps the distance
pub distance-sum : (n x y z x' y' : ℕ) → IsSum n x z x' → IsSum n y z y' → distance n x' y' ≡ distance n x y
unfolding distance
distance-sum n x y z x' y' first second =
    places_same (λ p. not (digit n x' p == digit n y' p)) (λ p. not (digit n x p == digit n y p)) n
    (λ p h. ap₂ (λ i j. not (i == j)) (first.digits p h) (second.digits p h)
    ∙ differ_shifted (digit n x p) (digit n y p) (digit n z p) (digit-lt n x p) (digit-lt n y p) (digit-lt n z p))
  where
    differ_shifted : (a b c : ℕ) → a < 2 → b < 2 → c < 2 → not ((a + c) % 2 == (b + c) % 2) ≡ not (a == b)
    differ_shifted a b c h k l = grind (arith, nat_tests)

-- the distance of two words does not depend on the length that they are read at
pub distance_any_length : (n m x y : ℕ) → x < 2 ^ n → y < 2 ^ n → x < 2 ^ m → y < 2 ^ m → distance n x y ≡ distance m x y
distance_any_length n m x y x_n y_n x_m y_m =
    let at_n = IsSum-bit_xor n x y x_n y_n in
    let at_m = IsSum-bit_xor m x y x_m y_m in
    distance-is_weight n x y (bit_xor x y) at_n ∙ sym (weight-count_ones n (bit_xor x y) at_n.word)
    ∙ weight-count_ones m (bit_xor x y) at_m.word ∙ sym (distance-is_weight m x y (bit_xor x y) at_m)

-- nor does the weight of a word
pub weight_any_length : (n m x : ℕ) → x < 2 ^ n → x < 2 ^ m → weight n x ≡ weight m x
weight_any_length n m x below_n below_m = sym (weight-count_ones n x below_n) ∙ weight-count_ones m x below_m

-- the word with ones at its last w places has weight w
pub weight-ones : (n w : ℕ) → w ≤ n → weight n (2 ^ w - 1) ≡ w
weight-ones n zero h = let below = pow_pos n in let few = ones_le_self 0 in sym (weight-count_ones n 0 below) ∙ omega arith
weight-ones zero (suc w) h = absurd (omega arith)
weight-ones (suc n) (suc w) h =
    let more = pow-suc 2 w in
    let some = pow_pos w in
    let split : 2 ^ suc w - 1 ≡ (2 ^ w - 1) * 2 + 1 = omega arith in
    ap (weight (suc n)) split ∙ weight-suc n ((2 ^ w - 1) * 2 + 1)
    ∙ ap₂ (λ i j. i + j) (mod-mul-add (2 ^ w - 1) 2 1 (omega arith)) (ap (weight n) (div-mul-add (2 ^ w - 1) 2 1 (omega arith)) ∙ weight-ones n w (omega arith))
    ∙ omega arith
