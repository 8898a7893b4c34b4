-- The digits of words, counted by words and by places: some place has a digit in as many words as the mean.
use Rattle.std.proofs.Common.{◌≡◌, ℕ, zero, suc, ◌+◌, ◌-◌, ◌*◌, ◌<◌, ◌≤◌, List, [], ◌∷◌, length, take, get_or, All, refl, sym, ap, subst, ◌∙◌, inl, inr, arith}
use Rattle.std.specs.Prelude.{Bool, true, false, cond, ◌==◌, ◌&&◌, count_by, Some}
use Rattle.std.specs.Int.{div_ceil}
use Rattle.std.specs.List.{sum_by}
use Rattle.std.proofs.Math.Nat.{mul-le-mul_left}
use Rattle.std.proofs.lemmas.Bool.{cases_lt}
use Rattle.std.proofs.lemmas.List.{length-take-le}
use Rattle.std.proofs.lemmas.List.Elements.{All-nil, All-cons, recursion_from_All}
use Rattle.ct_words.specs.Counting.Sums.{sum_below}
use Rattle.ct_words.proofs.Counting.Sums.{sum_by-congruence, sum_by-congruence_within, sum_by-constant, sum_below-congruence}
use Rattle.ct_words.proofs.Counting.Shortened.{sum_below-sum_by}
use Rattle.ct_words.specs.Word.{places, digit, weight}
use Rattle.ct_words.proofs.WordLemmas.{one, digit-lt}
use Rattle.ct_words.specs.Code.{IsCode, IsTrueLower}
use Rattle.ct_words.specs.Entry.{constant_weight}
use Rattle.ct_words.specs.Constructions.Places.{ArePlaces}
use Rattle.ct_words.specs.Constructions.Shortened.{shortened}
use Rattle.ct_words.proofs.Constructions.FrontLemmas.{IsCode-take}
use Rattle.ct_words.proofs.Constructions.ShortenedCodes.{IsCode-shortened, length-shortened}
use Rattle.ct_johnson.proofs.RoundedUp.{div_ceil-le}

-- at how many places the word x of length n has the digit a
abbrev pub count_of_digit : ℕ → ℕ → ℕ → ℕ
count_of_digit n a x = places (λ p. digit n x p == a) n

-- the words with the digit at a place, without it
abbrev pub with_digit : ℕ → ℕ → ℕ → List ℕ → List ℕ
with_digit n a p words = shortened n (p ∷ []) (a ∷ []) words

-- some place has the digit in so many of the words, or more
abbrev pub HasPlace : ℕ → ℕ → ℕ → List ℕ → Type 0
HasPlace n a least words = (p : ℕ) × (p < n) × (least ≤ length (with_digit n a p words))

-- a count of places is a sum over them
places-sum : (test : ℕ → Bool) (n : ℕ) → places test n ≡ sum_below (λ p. cond (test p) 1 0) n
places-sum test zero = refl
places-sum test (suc n) = let before = places-sum test n in omega arith

-- so many words have the digit at the place
pub length-with_digit : (n a p : ℕ) (words : List ℕ) → length (with_digit n a p words) ≡ count_by (λ x. digit n x p == a) words
length-with_digit n a p words =
    length-shortened n (p ∷ []) (a ∷ []) words ∙ ap (λ (f : ℕ → Bool). count_by f words) (λ i x. alone (digit n x p == a) i)
  where
    alone : (b : Bool) → (b && true) ≡ b
    alone true = refl
    alone false = refl

-- the places with the digit, word by word, are as many as the words with it, place by place
digits-by_places : (n a : ℕ) (words : List ℕ)
    → sum_by (count_of_digit n a) words ≡ sum_below (λ p. length (with_digit n a p words)) n
digits-by_places n a words =
    let at : ℕ → ℕ → ℕ = λ p x. cond (digit n x p == a) 1 0 in
    sum_by-congruence (count_of_digit n a) (λ x. sum_below (λ p. at p x) n) words (λ x. places-sum (λ p. digit n x p == a) n)
    ∙ sum_below-sum_by at words n
    ∙ sum_below-congruence (λ p. sum_by (at p) words) (λ p. length (with_digit n a p words)) n (λ p h. sym (length-with_digit n a p words))

-- one of the terms of a sum is at least their mean
abbrev HasTerm : (ℕ → ℕ) → ℕ → Type 0
HasTerm f k = (p : ℕ) × (p < k) × (sum_below f k ≤ f p * k)

some_term : (f : ℕ → ℕ) (k : ℕ) → HasTerm f (suc k)
some_term f zero = (0, omega arith, omega arith)
some_term f (suc k) = one_more (some_term f k)
  where
    one_more : HasTerm f (suc k) → HasTerm f (suc (suc k))
    one_more (q, within, most) =
        elim (cases_lt (f q) (f (suc k))) [
          | inl less ↦
              let at_most : f q ≤ f (suc k) = omega arith in
              let more = mul-le-mul_left (suc k) at_most in
              (suc k, omega arith, omega arith)
          | inr no_less ↦ (q, omega arith, omega arith)
        ]

-- where each word has the digit at k of n places, some place has it in at least k/n of the words
some_place : (n a k : ℕ) (words : List ℕ) → 1 ≤ n → All (λ x. count_of_digit n a x ≡ k) words
    → HasPlace n a (div_ceil (k * length words) n) words
some_place zero a k words some each = absurd (omega arith)
some_place (suc n) a k words some each = go (some_term (λ p. length (with_digit (suc n) a p words)) n)
  where
    in_all : sum_below (λ p. length (with_digit (suc n) a p words)) (suc n) ≡ length words * k
    in_all =
        sym (digits-by_places (suc n) a words)
        ∙ sum_by-congruence_within (count_of_digit (suc n) a) (λ x. k) words
        (recursion_from_All (λ x. count_of_digit (suc n) a x ≡ k) words each)
        ∙ sum_by-constant k words

    go : HasTerm (λ p. length (with_digit (suc n) a p words)) (suc n)
        → HasPlace (suc n) a (div_ceil (k * length words) (suc n)) words
    go (p, within, most) =
        let all = in_all in
        (p, within, div_ceil-le (k * length words) (suc n) (length (with_digit (suc n) a p words)) some (omega arith))

-- for the ones of words of one weight
pub place_of_ones : (n w : ℕ) (words : List ℕ) → 1 ≤ n → All (λ x. weight n x ≡ w) words
    → HasPlace n 1 (div_ceil (w * length words) n) words
unfolding weight
place_of_ones n w words some weights = some_place n 1 w words some weights

-- where each place counts for one of two tests, they count all places
places-both : (f g : ℕ → Bool) (n : ℕ) → ((p : ℕ) → p < n → one (f p) + one (g p) ≡ 1) → places f n + places g n ≡ n
places-both f g zero each = refl
places-both f g (suc n) each =
    let here = each n (omega arith) in
    let before = places-both f g n (λ p h. each p (omega arith)) in
    omega arith

-- the zeros of a word and its ones
zeros-ones : (n x : ℕ) → count_of_digit n 0 x + weight n x ≡ n
unfolding weight
zeros-ones n x =
    places-both (λ p. digit n x p == 0) (λ p. digit n x p == 1) n (λ p h. either (digit n x p) (digit-lt n x p))
  where
    either : (a : ℕ) → a < 2 → one (a == 0) + one (a == 1) ≡ 1
    either zero h = refl
    either (suc zero) h = refl
    either (suc (suc a)) h = absurd (omega arith)

-- and for the zeros
pub place_of_zeros : (n w : ℕ) (words : List ℕ) → 1 ≤ n → All (λ x. weight n x ≡ w) words
    → HasPlace n 0 (div_ceil ((n - w) * length words) n) words
place_of_zeros n w words some weights =
    some_place n 0 (n - w) words some
    (λ k d l.
    let ones = weights k d l in
    let all = zeros-ones n (get_or words k d) in
    omega arith)

-- one place of a word
one_place : (n p : ℕ) → p < n → ArePlaces n (p ∷ [])
one_place n p within = record {
  ascending = λ k h. absurd (omega arith);
  within = All-cons (λ q. q < n) p [] within (All-nil (λ q. q < n));
}

-- the words of a code with a one at a place, without it, are a code, and those with a zero
pub IsCode-with_one : (n d w p : ℕ) (words : List ℕ) → p ≤ n → IsCode (n + 1) d (Some (w + 1)) words
    → IsCode n d (Some w) (with_digit (n + 1) 1 p words)
IsCode-with_one n d w p words within code =
    let left = with_digit (n + 1) 1 p words in
    let shorter : n + 1 - 1 ≡ n = omega arith in
    let lighter : w + 1 - 1 ≡ w = omega arith in
    subst (λ m. IsCode m d (Some w) left) shorter
    (subst (λ v. IsCode (n + 1 - 1) d (Some v) left) lighter
    (IsCode-shortened (n + 1) d (Some (w + 1)) words (p ∷ []) (1 ∷ []) (one_place (n + 1) p (omega arith)) refl code))

pub IsCode-with_zero : (n d w p : ℕ) (words : List ℕ) → p ≤ n → IsCode (n + 1) d (Some w) words
    → IsCode n d (Some w) (with_digit (n + 1) 0 p words)
IsCode-with_zero n d w p words within code =
    let left = with_digit (n + 1) 0 p words in
    let shorter : n + 1 - 1 ≡ n = omega arith in
    let as_heavy : w - 0 ≡ w = omega arith in
    subst (λ m. IsCode m d (Some w) left) shorter
    (subst (λ v. IsCode (n + 1 - 1) d (Some v) left) as_heavy
    (IsCode-shortened (n + 1) d (Some w) words (p ∷ []) (0 ∷ []) (one_place (n + 1) p (omega arith)) refl code))

-- where enough words are left, the first of them are a code of just so many
first_left : (n d w least : ℕ) (left : List ℕ) → least ≤ length left → IsCode n d (Some w) left
    → IsTrueLower (constant_weight n d w) least
first_left n d w least left enough code =
    (take least left, IsCode-take n d (Some w) least left code, length-take-le least left enough)

-- ⌈(w + 1)·v/(n + 1)⌉
pub lower-with_one : (n d w v : ℕ) → IsTrueLower (constant_weight (n + 1) d (w + 1)) v
    → IsTrueLower (constant_weight n d w) (div_ceil ((w + 1) * v) (n + 1))
lower-with_one n d w v (words, code, size) =
    subst (λ k. IsTrueLower (constant_weight n d w) (div_ceil ((w + 1) * k) (n + 1))) size
    (go (place_of_ones (n + 1) (w + 1) words (omega arith) code.weights))
  where
    go : HasPlace (n + 1) 1 (div_ceil ((w + 1) * length words) (n + 1)) words
        → IsTrueLower (constant_weight n d w) (div_ceil ((w + 1) * length words) (n + 1))
    go (p, within, enough) =
        first_left n d w (div_ceil ((w + 1) * length words) (n + 1)) (with_digit (n + 1) 1 p words) enough
        (IsCode-with_one n d w p words (omega arith) code)

-- ⌈(n + 1 - w)·v/(n + 1)⌉
pub lower-with_zero : (n d w v : ℕ) → IsTrueLower (constant_weight (n + 1) d w) v
    → IsTrueLower (constant_weight n d w) (div_ceil ((n + 1 - w) * v) (n + 1))
lower-with_zero n d w v (words, code, size) =
    subst (λ k. IsTrueLower (constant_weight n d w) (div_ceil ((n + 1 - w) * k) (n + 1))) size
    (go (place_of_zeros (n + 1) w words (omega arith) code.weights))
  where
    go : HasPlace (n + 1) 0 (div_ceil ((n + 1 - w) * length words) (n + 1)) words
        → IsTrueLower (constant_weight n d w) (div_ceil ((n + 1 - w) * length words) (n + 1))
    go (p, within, enough) =
        first_left n d w (div_ceil ((n + 1 - w) * length words) (n + 1)) (with_digit (n + 1) 0 p words) enough
        (IsCode-with_zero n d w p words (omega arith) code)
