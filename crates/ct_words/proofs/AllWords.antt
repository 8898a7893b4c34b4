-- The words of a length as numbers, in order, have as digits all lists of digits, in order.
use Rattle.std.proofs.Common.{◌≡◌, ℕ, zero, suc, ◌+◌, ◌-◌, ◌*◌, ◌/◌, ◌%◌, ◌^◌, ◌<◌, ◌∷◌, ◌++◌, map, refl, sym, ap, ap₂, ◌∙◌, arith, pow-suc, pow_pos, pow-add}
use Rattle.std.specs.Prelude.{Bool, true, false, ◌==◌}
use Rattle.std.proofs.Math.Nat.{mul-add-div, div-eq_of_lt}
use Rattle.std.proofs.lemmas.List.{map-append}
use Rattle.std.proofs.lemmas.Simd.{map-map}
use Rattle.ct_words.specs.Counting.Words.{all_words}
use Rattle.ct_words.specs.Word.{digit}
use Rattle.ct_words.specs.Text.{tabulate}
use Rattle.ct_words.specs.Characters.{words_of_length}
use Rattle.ct_words.proofs.DigitLists.{digits_from, digits_of}

-- a table of two parts
pub tabulate-add : (f : ℕ → ℕ) (a b : ℕ) → tabulate f (a + b) ≡ tabulate f a ++ tabulate (λ i. f (a + i)) b
tabulate-add f zero b =
    let b_is : 0 + b ≡ b = omega arith in
    let f_is : (i : ℕ) → f i ≡ f (0 + i) = λ i. let e : i ≡ 0 + i = omega arith in ap f e in
    ap (tabulate f) b_is ∙ (λ i. tabulate (λ j. f_is j i) b)
tabulate-add f (suc a) b =
    let n_is : suc a + b ≡ suc (a + b) = omega arith in
    let f_is : (i : ℕ) → f (suc (a + i)) ≡ f (suc a + i) = λ i. let e : suc (a + i) ≡ suc a + i = omega arith in ap f e in
    ap (tabulate f) n_is ∙ ap (λ xs. f 0 ∷ xs) (tabulate-add (λ i. f (suc i)) a b) ∙ (λ i. (f 0 ∷ tabulate (λ j. f (suc j)) a) ++ tabulate (λ j. f_is j i) b)

-- the images of two tables that are equal place by place
map-tabulate : {Y : Type 0} (g h : ℕ → Y) (f : ℕ → ℕ) (a : ℕ) → ((i : ℕ) → i < a → g (f i) ≡ h i) → map g (tabulate f a) ≡ map h (tabulate (λ i. i) a)
map-tabulate {Y} g h f a same = along g h f (λ i. i) a same
  where
    along : (g h : ℕ → Y) (f e : ℕ → ℕ) (a : ℕ) → ((i : ℕ) → i < a → g (f i) ≡ h (e i)) → map g (tabulate f a) ≡ map h (tabulate e a)
    along g h f e zero same = refl
    along g h f e (suc a) same =
        ap₂ (λ y ys. y ∷ ys) (same 0 (omega arith)) (along g h (λ i. f (suc i)) (λ i. e (suc i)) a (λ i l. same (suc i) (omega arith)))

-- a digit of a word that is read as one digit longer
digit-lower : (n x p : ℕ) → digit (suc n) x (suc p) ≡ digit n x p
digit-lower n x p = let e : suc n - 1 - suc p ≡ n - 1 - p = omega arith in ap (λ i. x / 2 ^ i % 2) e

-- a digit 1 before the others leaves them
digit-raised : (n x p : ℕ) → p < n → digit n (2 ^ n + x) p ≡ digit n x p
digit-raised n x p l =
    let m = n - 1 - p in
    let n_is : n ≡ m + suc p = omega arith in
    let power = ap (λ k. 2 ^ k) n_is ∙ pow-add 2 m (suc p) in
    let sum = ap (λ k. k + x) power in
    let quotient = ap (λ z. z / 2 ^ m) sum ∙ mul-add-div (pow_pos m) (2 ^ suc p) x in
    let double = pow-suc 2 p in
    let even : (2 ^ suc p + x / 2 ^ m) % 2 ≡ x / 2 ^ m % 2 = omega arith in
    ap (λ z. z % 2) quotient ∙ even

-- the first digit tells whether a word is below 2^n
digit-first_zero : (n x : ℕ) → x < 2 ^ n → digit (suc n) x 0 ≡ 0
digit-first_zero n x l =
    let e : suc n - 1 - 0 ≡ n = omega arith in
    let none = div-eq_of_lt l in
    ap (λ i. x / 2 ^ i % 2) e ∙ ap (λ z. z % 2) none

digit-first_one : (n x : ℕ) → x < 2 ^ n → digit (suc n) (2 ^ n + x) 0 ≡ 1
digit-first_one n x l =
    let e : suc n - 1 - 0 ≡ n = omega arith in
    let one : 2 ^ n + x ≡ 2 ^ n * 1 + x = omega arith in
    let none = div-eq_of_lt l in
    ap (λ i. (2 ^ n + x) / 2 ^ i % 2) e ∙ ap (λ z. z / 2 ^ n % 2) one ∙ ap (λ z. z % 2) (mul-add-div (pow_pos n) 1 x) ∙ ap (λ z. (1 + z) % 2) none

-- lists of digits that are equal place by place
digits_from-same : (p q : ℕ → Bool) (n : ℕ) → ((i : ℕ) → i < n → p i ≡ q i) → digits_from p n ≡ digits_from q n
digits_from-same p q zero h = refl
digits_from-same p q (suc n) h = ap₂ (λ b x. b ∷ x) (h 0 (omega arith)) (digits_from-same (λ i. p (suc i)) (λ i. q (suc i)) n (λ i l. h (suc i) (omega arith)))

-- the digits of a word below 2^n, and of one from 2^n on
digits_of-low : (n x : ℕ) → x < 2 ^ n → digits_of (suc n) x ≡ false ∷ digits_of n x
digits_of-low n x l =
    ap₂ (λ b y. b ∷ y) (ap (λ d. d == 1) (digit-first_zero n x l))
    (digits_from-same (λ p. digit (suc n) x (suc p) == 1) (λ p. digit n x p == 1) n (λ p m. ap (λ d. d == 1) (digit-lower n x p)))

digits_of-high : (n x : ℕ) → x < 2 ^ n → digits_of (suc n) (2 ^ n + x) ≡ true ∷ digits_of n x
digits_of-high n x l =
    ap₂ (λ b y. b ∷ y) (ap (λ d. d == 1) (digit-first_one n x l))
    (digits_from-same (λ p. digit (suc n) (2 ^ n + x) (suc p) == 1) (λ p. digit n x p == 1) n
    (λ p m. ap (λ d. d == 1) (digit-lower n (2 ^ n + x) p ∙ digit-raised n x p m)))

-- the digits of all words of a length
pub digits-words_of_length : (n : ℕ) → map (digits_of n) (words_of_length n) ≡ all_words n
digits-words_of_length zero = refl
digits-words_of_length (suc n) =
    let half = 2 ^ n in
    let digits = digits_of (suc n) in
    let double = pow-suc 2 n in
    let two_halves : 2 ^ suc n ≡ half + half = omega arith in
    let ih = digits-words_of_length n in
    let low : map digits (tabulate (λ x. x) half) ≡ map (λ w. false ∷ w) (all_words n) =
    map-tabulate digits (λ x. false ∷ digits_of n x) (λ x. x) half (digits_of-low n)
    ∙ sym (map-map (λ w. false ∷ w) (digits_of n) (words_of_length n)) ∙ ap (map (λ w. false ∷ w)) ih in
    let high : map digits (tabulate (λ x. half + x) half) ≡ map (λ w. true ∷ w) (all_words n) =
    map-tabulate digits (λ x. true ∷ digits_of n x) (λ x. half + x) half (digits_of-high n)
    ∙ sym (map-map (λ w. true ∷ w) (digits_of n) (words_of_length n)) ∙ ap (map (λ w. true ∷ w)) ih in
    ap (λ m. map digits (tabulate (λ x. x) m)) two_halves
    ∙ ap (map digits) (tabulate-add (λ x. x) half half)
    ∙ map-append digits (tabulate (λ x. x) half) (tabulate (λ x. half + x) half)
    ∙ ap₂ (λ xs ys. xs ++ ys) low high
