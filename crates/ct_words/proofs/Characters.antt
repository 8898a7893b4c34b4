-- Sums of characters over the words of a weight, and Delsarte's inequalities of the Hamming scheme: over all pairs of words by their distance.
use Rattle.std.proofs.Common.{◌≡◌, ℕ, zero, suc, ◌-◌, ◌*◌, ◌%◌, ◌^◌, ◌<◌, ◌≤◌, List, map, length, refl, sym, ap, ap₂, ◌∙◌, subst, arith}
use Rattle.std.specs.Prelude.{Bool, cond, ◌&&◌, ◌==◌, ℤ, pos, ◌≤ℤ◌, unsigned_abs}
use Rattle.std.specs.List.{All}
use Rattle.std.proofs.Math.Nat.{pow-le-pow_right}
use Rattle.std.proofs.lemmas.List.Elements.{All-map}
use Rattle.std.proofs.lemmas.Int.{ints}
use Rattle.std.proofs.lemmas.List.Sums.{length-filter}
use Rattle.ct_words.specs.Counting.Binomials.{choose}
use Rattle.ct_words.specs.Counting.Sums.{total}
use Rattle.ct_words.specs.Counting.PairTotals.{pair_total, square}
use Rattle.ct_words.specs.Counting.Words.{all_words, apart, ones}
use Rattle.ct_words.specs.Counting.Alternating.{sign}
use Rattle.ct_words.proofs.Counting.Totals.{total-congruence, total-map, total_of_squares}
use Rattle.ct_words.proofs.Counting.PartTotals.{total-filter}
use Rattle.ct_words.proofs.Counting.PairTotals.{pair_total-map}
use Rattle.ct_words.proofs.Counting.Words.{count_of_weight}
use Rattle.ct_words.proofs.Counting.Combinations.{total-le, total-constant}
use Rattle.ct_words.proofs.Counting.OddSums.{square-signs}
use Rattle.ct_words.proofs.Counting.SignedBinomials.{signed_binomial, signed_binomial-le_power}
use Rattle.ct_words.proofs.Counting.Characters.{common_digits, digit_character, digit_words, zeros, ones-zeros, total-digit_character, pair_total-digit_characters}
use Rattle.ct_words.specs.declared.limits.TheConstants.{MAX_N}
use Rattle.ct_words.specs.Word.{places, digit, weight, distance}
use Rattle.ct_words.specs.Characters.{common_ones, character, words_of_length, words_of_weight}
use Rattle.ct_words.proofs.DigitLists.{digits_from, digits_of, length-digits_of, ones-digits_of, apart-digits_of, places-first}
use Rattle.ct_words.proofs.AllWords.{digits-words_of_length}

-- a sum over all pairs of words by their distance, on their lists of digits
pair_total-distance : (f : ℕ → ℤ) (n : ℕ) (words : List ℕ) → pair_total (λ x y. f (apart x y)) (map (digits_of n) words) ≡ pair_total (λ x y. f (distance n x y)) words
pair_total-distance f n words =
    pair_total-map (λ x y. f (apart x y)) (digits_of n) words
    ∙ (λ i. pair_total (λ x y. f (apart-digits_of n x y i)) words)

-- the places where two lists of digits both hold a one are counted by places
common_digits-digits_from : (p q : ℕ → Bool) (n : ℕ) → common_digits (digits_from p n) (digits_from q n) ≡ places (λ k. p k && q k) n
common_digits-digits_from p q zero = refl
common_digits-digits_from p q (suc n) =
    let ih = common_digits-digits_from (λ k. p (suc k)) (λ k. q (suc k)) n in
    let first = places-first (λ k. p k && q k) n in
    omega arith

-- a character of words is that of their lists of digits
character-digits_of : (n u x : ℕ) → digit_character (digits_of n u) (digits_of n x) ≡ character n u x
character-digits_of n u x = ap sign (common_digits-digits_from (λ p. digit n u p == 1) (λ p. digit n x p == 1) n)

-- a sum over the words of a weight, on their lists of digits
total-words_of_weight : (f : List Bool → ℤ) (n k : ℕ) → total f (digit_words n k) ≡ total (λ u. f (digits_of n u)) (words_of_weight n k)
total-words_of_weight f n k =
    let at : List Bool → ℤ = λ w. cond (ones w == k) (f w) (pos 0) in
    total-filter f (λ w. ones w == k) (all_words n)
    ∙ ap (total at) (sym (digits-words_of_length n))
    ∙ total-map at (digits_of n) (words_of_length n)
    ∙ total-congruence (λ u. at (digits_of n u)) (λ u. cond (weight n u == k) (f (digits_of n u)) (pos 0)) (words_of_length n)
    (λ u. ap (λ m. cond (m == k) (f (digits_of n u)) (pos 0)) (ones-digits_of n u))
    ∙ sym (total-filter (λ u. f (digits_of n u)) (λ u. weight n u == k) (words_of_length n))

-- the characters at a word, of all words of a weight, add up to a coefficient of (1 - z)^i (1 + z)^(n - i), where i is the weight of the word
pub total-character : (n k x : ℕ) → total (λ u. character n u x) (words_of_weight n k) ≡ signed_binomial (weight n x) (n - weight n x) k
total-character n k x =
    let digits = digits_of n x in
    let many = ones-digits_of n x in
    let long = length-digits_of n x in
    let split = ones-zeros digits in
    let rest : zeros digits ≡ n - weight n x = omega arith in
    sym
    (total-words_of_weight (λ u. digit_character u digits) n k
    ∙ total-congruence (λ u. digit_character (digits_of n u) digits) (λ u. character n u x) (words_of_weight n k) (λ u. character-digits_of n u x))
    ∙ ap (λ m. total (λ u. digit_character u digits) (digit_words m k)) (sym long)
    ∙ total-digit_character digits k
    ∙ ap₂ (λ i m. signed_binomial i m k) many rest

-- over all pairs of words of a list, such coefficients at their distances add up to the squares of the sums of characters
pub pair_total-characters : (n k : ℕ) (words : List ℕ) → pair_total (λ x y. signed_binomial (distance n x y) (n - distance n x y) k) words ≡ total (λ u. square (total (character n u) words)) (words_of_weight n k)
pair_total-characters n k words =
    let digits = map (digits_of n) words in
    let lengths : All (λ x. length x ≡ n) digits = All-map (λ x. length x ≡ n) (digits_of n) words (λ i d l. length-digits_of n _) in
    let sums : (u : ℕ) → total (digit_character (digits_of n u)) digits ≡ total (character n u) words =
    λ u. total-map (digit_character (digits_of n u)) (digits_of n) words
    ∙ total-congruence (λ x. digit_character (digits_of n u) (digits_of n x)) (character n u) words (character-digits_of n u) in
    sym (pair_total-distance (λ i. signed_binomial i (n - i) k) n words)
    ∙ pair_total-digit_characters n k digits lengths
    ∙ total-words_of_weight (λ u. square (total (digit_character u) digits)) n k
    ∙ total-congruence (λ u. square (total (digit_character (digits_of n u)) digits)) (λ u. square (total (character n u) words)) (words_of_weight n k) (λ u. ap square (sums u))

-- so they add up to at least 0
pub pair_total-nonneg : (n k : ℕ) (words : List ℕ) → pos 0 ≤ℤ pair_total (λ x y. signed_binomial (distance n x y) (n - distance n x y) k) words
pair_total-nonneg n k words =
    let P : ℤ → Type 0 = λ z. pos 0 ≤ℤ z in
    subst P (sym (pair_total-characters n k words)) (total_of_squares (λ u. total (character n u) words) (words_of_weight n k))

-- for words of the table these coefficients lie strictly between -2^47 and 2^47
pub signed_binomial-small : (n k i : ℕ) → i ≤ n → n ≤ MAX_N → unsigned_abs (signed_binomial i (n - i) k) < 2 ^ 47
signed_binomial-small n k i within short =
    let bound = signed_binomial-le_power n k i within in
    let power : 2 ^ n ≤ 2 ^ MAX_N = pow-le-pow_right (omega arith) short in
    omega arith

-- there are as many words of weight k as there are choices of k places
total-count : (n k : ℕ) → total (λ u. pos 1) (words_of_weight n k) ≡ pos (choose n k)
total-count n k =
    let words = digit_words n k in
    let all = total-constant 1 words in
    let many = length-filter (λ u. ones u == k) (all_words n) ∙ count_of_weight n k in
    let one : length words * 1 ≡ choose n k = omega arith in
    sym (total-words_of_weight (λ u. pos 1) n k) ∙ all ∙ ap pos one

-- over all pairs of an odd number of words such coefficients add up to at least the number of words of weight k, since each sum of characters is odd
pub pair_total-odd : (n k : ℕ) (words : List ℕ) → length words % 2 ≡ 1 → pos (choose n k) ≤ℤ pair_total (λ x y. signed_binomial (distance n x y) (n - distance n x y) k) words
pair_total-odd n k words odd =
    let squares = total-le (λ u. pos 1) (λ u. square (total (character n u) words)) (words_of_weight n k) (λ u. square-signs (common_ones n u) words odd) in
    let many = total-count n k in
    let sums = pair_total-characters n k words in
    omega (arith, ints)
