-- A list of digits as the word that it writes: the way back from counting to numbers.
use Rattle.std.proofs.Common.{◌≡◌, ℕ, zero, suc, ◌+◌, ◌*◌, ◌^◌, ◌<◌, List, [], ◌∷◌, length, refl, sym, ap, ap₂, ◌∙◌, arith, pow-suc}
use Rattle.std.specs.Prelude.{Bool, true, false, cond, ◌==◌}
use Rattle.ct_words.specs.Counting.Words.{apart, ones}
use Rattle.ct_words.specs.Word.{digit, weight, distance}
use Rattle.ct_words.proofs.TextLemmas.{first_digit, next_digit}
use Rattle.ct_words.proofs.DigitLists.{digits_from, digits_of, ones-digits_of, apart-digits_of}

-- the number that the digits write, the first one the most significant
abbrev pub word_value : List Bool → ℕ
word_value [] = 0
word_value (a ∷ x) = cond a 1 0 * 2 ^ length x + word_value x

-- it is a word of as many digits
pub word_value-lt : (x : List Bool) → word_value x < 2 ^ length x
word_value-lt [] = omega arith
word_value-lt (false ∷ x) = let ih = word_value-lt x in let double = pow-suc 2 (length x) in omega arith
word_value-lt (true ∷ x) = let ih = word_value-lt x in let double = pow-suc 2 (length x) in omega arith

-- digits that agree below n
digits_from_same : (f g : ℕ → Bool) (n : ℕ) → ((p : ℕ) → p < n → f p ≡ g p) → digits_from f n ≡ digits_from g n
digits_from_same f g zero same = refl
digits_from_same f g (suc n) same =
    ap₂ (λ (b : Bool) (x : List Bool). b ∷ x) (same 0 (omega arith)) (digits_from_same (λ p. f (suc p)) (λ p. g (suc p)) n (λ p h. same (suc p) (omega arith)))

-- a binary digit tells which it is
digit_is : (a : Bool) → (cond {A = ℕ} a 1 0 == 1) ≡ a
digit_is false = refl
digit_is true = refl

digit-lt-two : (a : Bool) → cond {A = ℕ} a 1 0 < 2
digit-lt-two false = omega arith
digit-lt-two true = omega arith

-- its digits are the list
pub digits_of-word_value : (x : List Bool) → digits_of (length x) (word_value x) ≡ x
digits_of-word_value [] = refl
digits_of-word_value (a ∷ x) =
    let m = length x in
    let first = first_digit m (cond a 1 0) (word_value x) (digit-lt-two a) (word_value-lt x) in
    let others =
    digits_from_same (λ p. digit (suc m) (word_value (a ∷ x)) (suc p) == 1) (λ p. digit m (word_value x) p == 1) m
    (λ p h. ap (λ v. v == 1) (next_digit m (cond a 1 0) (word_value x) p h)) in
    ap₂ (λ (b : Bool) (y : List Bool). b ∷ y) (ap (λ v. v == 1) first ∙ digit_is a) (others ∙ digits_of-word_value x)

-- the same for a list of known length
pub digits_of-word_value_at : (n : ℕ) (x : List Bool) → length x ≡ n → digits_of n (word_value x) ≡ x
digits_of-word_value_at n x long = ap (λ m. digits_of m (word_value x)) (sym long) ∙ digits_of-word_value x

-- so weight and distance are those of the lists
pub weight-word_value : (n : ℕ) (x : List Bool) → length x ≡ n → weight n (word_value x) ≡ ones x
weight-word_value n x long = sym (ones-digits_of n (word_value x)) ∙ ap ones (digits_of-word_value_at n x long)

pub distance-word_value : (n : ℕ) (x y : List Bool) → length x ≡ n → length y ≡ n → distance n (word_value x) (word_value y) ≡ apart x y
distance-word_value n x y long long_too =
    sym (apart-digits_of n (word_value x) (word_value y))
    ∙ ap₂ apart (digits_of-word_value_at n x long) (digits_of-word_value_at n y long_too)
