-- A word as the list of its digits, on which distance and weight are those of lists.
use Rattle.std.proofs.Common.{◌≡◌, ℕ, zero, suc, ◌+◌, ◌%◌, List, [], ◌∷◌, length, ◌-◌, ◌/◌, ◌^◌, refl, sym, inl, inr, ◌∙◌, arith}
use Rattle.std.specs.Prelude.{Bool, cond, not, ◌==◌, ◌⊎◌}
use Rattle.std.proofs.lemmas.Bool.{cases_eq}
use Rattle.ct_words.specs.Word.{places, digit, weight, distance}
use Rattle.ct_words.proofs.WordLemmas.{places_same}
use Rattle.ct_words.specs.Counting.Words.{apart, differ, ones}

-- the digits p 0, .., p (n - 1)
abbrev pub digits_from : (ℕ → Bool) → ℕ → List Bool
digits_from p zero = []
digits_from p (suc n) = p 0 ∷ digits_from (λ k. p (suc k)) n

-- the digits of the word x of length n, from place 0 on
abbrev pub digits_of : ℕ → ℕ → List Bool
digits_of n x = digits_from (λ p. digit n x p == 1) n

-- there are as many as asked for
pub length-digits_from : (p : ℕ → Bool) (n : ℕ) → length (digits_from p n) ≡ n
length-digits_from p zero = refl
length-digits_from p (suc n) = let ih = length-digits_from (λ k. p (suc k)) n in omega arith

-- a count of places, with the first apart
pub places-first : (p : ℕ → Bool) (n : ℕ) → places p (suc n) ≡ cond (p 0) 1 0 + places (λ k. p (suc k)) n
places-first p zero = refl
places-first p (suc n) = let ih = places-first p n in omega arith

-- the ones of a list of digits are counted by places
ones-digits_from : (p : ℕ → Bool) (n : ℕ) → ones (digits_from p n) ≡ places p n
ones-digits_from p zero = refl
ones-digits_from p (suc n) =
    let ih = ones-digits_from (λ k. p (suc k)) n in
    let first = places-first p n in
    omega arith

-- the differences of two lists of digits are counted by places
apart-digits_from : (p q : ℕ → Bool) (n : ℕ) → apart (digits_from p n) (digits_from q n) ≡ places (λ k. differ (p k) (q k)) n
apart-digits_from p q zero = refl
apart-digits_from p q (suc n) =
    let ih = apart-digits_from (λ k. p (suc k)) (λ k. q (suc k)) n in
    let first = places-first (λ k. differ (p k) (q k)) n in
    omega arith

-- a remainder modulo 2 is 0 or 1
binary_digit : (a : ℕ) → (a % 2 ≡ 0) ⊎ (a % 2 ≡ 1)
binary_digit a =
    elim (cases_eq (a % 2) 0) [ inl zero_is ↦ inl zero_is | inr one_is ↦ let e : a % 2 ≡ 1 = omega arith in inr e ]

-- two binary digits are equal where both are one or neither is
differ_digits : (a b : ℕ) → not (a % 2 == b % 2) ≡ differ (a % 2 == 1) (b % 2 == 1)
differ_digits a b =
    elim (binary_digit a) [
      | inl p ↦ elim (binary_digit b) [ inl q ↦ rw (p, q) refl | inr q ↦ rw (p, q) refl ]
      | inr p ↦ elim (binary_digit b) [ inl q ↦ rw (p, q) refl | inr q ↦ rw (p, q) refl ]
    ]

-- a word of length n has n digits
pub length-digits_of : (n x : ℕ) → length (digits_of n x) ≡ n
length-digits_of n x = length-digits_from (λ p. digit n x p == 1) n

-- the weight of a word is the number of ones among its digits
pub ones-digits_of : (n x : ℕ) → ones (digits_of n x) ≡ weight n x
unfolding weight
ones-digits_of n x = ones-digits_from (λ p. digit n x p == 1) n

-- the distance of two words is that of their lists of digits
pub apart-digits_of : (n x y : ℕ) → apart (digits_of n x) (digits_of n y) ≡ distance n x y
unfolding distance
apart-digits_of n x y =
    apart-digits_from (λ p. digit n x p == 1) (λ p. digit n y p == 1) n
    ∙ places_same (λ p. differ (digit n x p == 1) (digit n y p == 1)) (λ p. not (digit n x p == digit n y p)) n
    (λ p h. sym (differ_digits (x / 2 ^ (n - 1 - p)) (y / 2 ^ (n - 1 - p))))
