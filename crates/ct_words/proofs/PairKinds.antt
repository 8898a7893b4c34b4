-- The kinds of the places of two words, and how many places of each kind two words of one weight have.
use Rattle.std.proofs.Common.{◌≡◌, ℕ, zero, suc, ◌+◌, ◌-◌, ◌/◌, ◌<◌, ◌≤◌, List, ◌∷◌, refl, ap₂, ◌∙◌, arith}
use Rattle.std.specs.Prelude.{Bool, true, false, ◌==◌, pos, ◌-ℤ◌, ◌*ℤ◌}
use Rattle.ct_words.specs.Counting.Words.{ones, apart}
use Rattle.ct_words.proofs.Counting.PlaceKinds.{Kind, both, neither, first, second, same, weight_of_kinds, count}
use Rattle.ct_words.specs.Word.{digit, weight, distance}
use Rattle.ct_words.specs.Text.{tabulate}
use Rattle.ct_words.specs.PairProducts.{all_places}
use Rattle.ct_words.proofs.WordLemmas.{digit-lt}
use Rattle.ct_words.proofs.DigitLists.{digits_from, ones-digits_of, apart-digits_of}

-- the kind of a place by the digits that two words have there
abbrev pub kind_of : Bool → Bool → Kind
kind_of true true = both
kind_of true false = first
kind_of false true = second
kind_of false false = neither

abbrev pub kind_at : ℕ → ℕ → ℕ → ℕ → Kind
kind_at n x y p = kind_of (digit n x p == 1) (digit n y p == 1)

-- a digit as a number
abbrev bit : Bool → ℕ
bit true = 1
bit false = 0

-- a digit is that of its test
bit_is : (d : ℕ) → d < 2 → d ≡ bit (d == 1)
bit_is zero h = refl
bit_is (suc zero) h = refl
bit_is (suc (suc d)) h = absurd (omega arith)

-- the product of the differences that two words have over a pair of places
differences : (a b c d : Bool) → (pos (bit a) -ℤ pos (bit b)) *ℤ (pos (bit c) -ℤ pos (bit d)) ≡ weight_of_kinds (kind_of a c) (kind_of b d)
differences true true true true = refl
differences true true true false = refl
differences true true false true = refl
differences true true false false = refl
differences true false true true = refl
differences true false true false = refl
differences true false false true = refl
differences true false false false = refl
differences false true true true = refl
differences false true true false = refl
differences false true false true = refl
differences false true false false = refl
differences false false true true = refl
differences false false true false = refl
differences false false false true = refl
differences false false false false = refl

-- for two words of length n
pub differences-kinds : (n x y a b : ℕ) → (pos (digit n x a) -ℤ pos (digit n x b)) *ℤ (pos (digit n y a) -ℤ pos (digit n y b)) ≡ weight_of_kinds (kind_at n x y a) (kind_at n x y b)
differences-kinds n x y a b =
    ap₂ (λ s t. s *ℤ t)
    (ap₂ (λ s t. pos s -ℤ pos t) (bit_is (digit n x a) (digit-lt n x a)) (bit_is (digit n x b) (digit-lt n x b)))
    (ap₂ (λ s t. pos s -ℤ pos t) (bit_is (digit n y a) (digit-lt n y a)) (bit_is (digit n y b) (digit-lt n y b)))
    ∙ differences (digit n x a == 1) (digit n x b == 1) (digit n y a == 1) (digit n y b == 1)

-- what four counts of places add up to
record IsTally (m : Kind → ℕ) (x y : List Bool) (n : ℕ) : Type 0 where
  ones_of_first : m both + m first ≡ ones x
  ones_of_second : m both + m second ≡ ones y
  differences : m first + m second ≡ apart x y
  all : m both + m neither + m first + m second ≡ n

-- with one place more
tally-cons : (a b : Bool) (m : Kind → ℕ) (x y : List Bool) (n : ℕ) → IsTally m x y n → IsTally (λ K. same K (kind_of a b) + m K) (a ∷ x) (b ∷ y) (suc n)
tally-cons true true m x y n t = record { ones_of_first = let e = t.ones_of_first in omega arith; ones_of_second = let e = t.ones_of_second in omega arith; differences = let e = t.differences in omega arith; all = let e = t.all in omega arith }
tally-cons true false m x y n t = record { ones_of_first = let e = t.ones_of_first in omega arith; ones_of_second = let e = t.ones_of_second in omega arith; differences = let e = t.differences in omega arith; all = let e = t.all in omega arith }
tally-cons false true m x y n t = record { ones_of_first = let e = t.ones_of_first in omega arith; ones_of_second = let e = t.ones_of_second in omega arith; differences = let e = t.differences in omega arith; all = let e = t.all in omega arith }
tally-cons false false m x y n t = record { ones_of_first = let e = t.ones_of_first in omega arith; ones_of_second = let e = t.ones_of_second in omega arith; differences = let e = t.differences in omega arith; all = let e = t.all in omega arith }

-- the counts of the places of two words
tally : (p q : ℕ → Bool) (f : ℕ → ℕ) (n : ℕ) → IsTally (count (λ i. kind_of (p i) (q i)) (tabulate f n)) (digits_from (λ i. p (f i)) n) (digits_from (λ i. q (f i)) n) n
tally p q f zero = record { ones_of_first = refl; ones_of_second = refl; differences = refl; all = refl }
tally p q f (suc n) = tally-cons (p (f 0)) (q (f 0)) _ _ _ n (tally p q (λ k. f (suc k)) n)

-- how many places of each kind two words of weight w have: half of their distance are of each mixed kind
pub record AreOneWeight (n w i : ℕ) (m : Kind → ℕ) : Type 0 where
  pub mixed : m first ≡ m second
  pub in_first : m first ≡ i
  pub in_both : m both ≡ w - i
  pub in_neither : m neither ≡ n - w - i
  pub index_within : i ≤ w
  pub index_outside : w + i ≤ n

-- by the four sums
pub kinds_of_pair : (n w x y : ℕ) → weight n x ≡ w → weight n y ≡ w → AreOneWeight n w (distance n x y / 2) (count (kind_at n x y) (all_places n))
kinds_of_pair n w x y p q =
    let t = tally (λ i. digit n x i == 1) (λ i. digit n y i == 1) (λ i. i) n in
    let a = t.ones_of_first ∙ ones-digits_of n x ∙ p in
    let b = t.ones_of_second ∙ ones-digits_of n y ∙ q in
    let c = t.differences ∙ apart-digits_of n x y in
    let d = t.all in
    record { mixed = omega arith; in_first = omega arith; in_both = omega arith; in_neither = omega arith; index_within = omega arith; index_outside = omega arith }
