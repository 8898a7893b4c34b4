-- A parity digit makes an odd distance one greater, and all weights even.
use Rattle.std.proofs.Common.{◌≡◌, ℕ, suc, ◌+◌, ◌%◌, ◌^◌, ◌<◌, ◌≤◌, List, [], ◌∷◌, map, length, get_or, refl, subst, arith}
use Rattle.std.specs.Prelude.{Bool, true, false, cond, not, ◌==◌, count_by}
use Rattle.std.specs.List.{All}
use Rattle.std.proofs.lemmas.Bool.Decides.{nat_tests}
use Rattle.std.proofs.lemmas.Simd.{map-map}
use Rattle.std.proofs.lemmas.List.Elements.{All-map}
use Rattle.ct_words.specs.Counting.Words.{all_words, apart, differ, ones}
use Rattle.ct_words.proofs.Counting.Sums.{sum_by-add, sum_by-congruence, sum_by-constant}
use Rattle.ct_words.proofs.Counting.Pairs.{AllPairs-map, AllPairs-within}
use Rattle.ct_words.proofs.Counting.Spread.{IsSpread}
use Rattle.ct_words.proofs.Counting.Places.{difference, first_digit, other_digits, other_length, apart-first}
use Rattle.ct_words.proofs.Counting.Words.{count_by-all_words, length-all_words}

-- whether the number of ones is odd
abbrev pub parity : List Bool → Bool
parity [] = false
parity (a ∷ x) = differ a (parity x)

-- the word with a parity digit in front
abbrev pub extended : List Bool → List Bool
extended x = parity x ∷ x

-- a digit differs from exactly one of another digit and its opposite
difference-not_right : (p q : Bool) → difference p (not q) + difference p q ≡ 1
difference-not_right false false = refl
difference-not_right false true = refl
difference-not_right true false = refl
difference-not_right true true = refl

difference-not_left : (p q : Bool) → difference (not p) q + difference p q ≡ 1
difference-not_left false false = refl
difference-not_left false true = refl
difference-not_left true false = refl
difference-not_left true true = refl

-- one more digit in each of two words keeps the sum of their distance and the difference of their parities even
parity_step : (a b p q : Bool) (t : ℕ) → (difference p q + t) % 2 ≡ 0 → (difference (differ a p) (differ b q) + (difference a b + t)) % 2 ≡ 0
parity_step false false p q t h = omega arith
parity_step false true p q t h = let other = difference-not_right p q in omega arith
parity_step true false p q t h = let other = difference-not_left p q in omega arith
parity_step true true p q t h =
    let other = difference-not_right (not p) q in
    let both = difference-not_left p q in
    omega arith

-- two words of one length differ at an even number of places, once each has its parity digit
extended_even : (x y : List Bool) → length x ≡ length y → apart (extended x) (extended y) % 2 ≡ 0
extended_even [] [] h = refl
extended_even [] (b ∷ y) h = absurd (omega arith)
extended_even (a ∷ x) [] h = absurd (omega arith)
extended_even (a ∷ x) (b ∷ y) h = parity_step a b (parity x) (parity y) (apart x y) (extended_even x y (omega arith))

-- so an odd distance grows
extended_far : (d : ℕ) (x y : List Bool) → d % 2 ≡ 1 → length x ≡ length y → d ≤ apart x y → suc d ≤ apart (extended x) (extended y)
extended_far d x y odd same far = let even = extended_even x y same in omega arith

-- the words of a code of odd distance with their parity digits
pub spread_extended : (n d : ℕ) → d % 2 ≡ 1 → (cs : List (List Bool)) → IsSpread n d cs → IsSpread (suc n) (suc d) (map extended cs)
spread_extended n d odd cs spread =
    record {
      lengths = All-map (λ x. length x ≡ suc n) extended cs (λ k z l. let long = spread.lengths k z l in omega arith);
      distances =
          AllPairs-map (λ x y. suc d ≤ apart x y) extended cs
          (λ i j z l m.
          let a = spread.lengths i z (omega arith) in
          let b = spread.lengths j z m in
          extended_far d _ _ odd (omega arith) (spread.distances i j z l m));
    }

-- a word with its parity digit has an even weight
parity-ones : (x : List Bool) → (ones x + cond (parity x) 1 0) % 2 ≡ 0
parity-ones [] = refl
parity-ones (false ∷ x) = let ih = parity-ones x in omega arith
parity-ones (true ∷ x) = turned (parity x) (ones x) (parity-ones x)
  where
    turned : (p : Bool) (t : ℕ) → (t + cond p 1 0) % 2 ≡ 0 → (1 + t + cond (not p) 1 0) % 2 ≡ 0
    turned false t h = omega arith
    turned true t h = omega arith

pub ones-extended : (x : List Bool) → ones (extended x) % 2 ≡ 0
ones-extended x = let even = parity-ones x in omega arith

-- the words without their first digits, which is a code one shorter and nearer by at most one
spread-punctured : (n d : ℕ) (cs : List (List Bool)) → IsSpread (suc n) (suc d) cs → IsSpread n d (map other_digits cs)
spread-punctured n d cs spread =
    record {
      lengths = All-map (λ x. length x ≡ n) other_digits cs (λ k z l. other_length n _ (spread.lengths k z l));
      distances =
          AllPairs-map (λ x y. d ≤ apart x y) other_digits cs
          (AllPairs-within (λ x. length x ≡ suc n) (λ x y. suc d ≤ apart x y) (λ x y. d ≤ apart (other_digits x) (other_digits y)) cs
          (λ x y p q far.
          let split = apart-first n x y p q in
          let first = difference-le-one (first_digit x) (first_digit y) in
          omega arith) spread.lengths spread.distances);
    }
  where
    difference-le-one : (a b : Bool) → difference a b ≤ 1
    difference-le-one false false = omega arith
    difference-le-one false true = omega arith
    difference-le-one true false = omega arith
    difference-le-one true true = omega arith

-- the word with its first digit replaced by the parity of the others
abbrev pub evened : List Bool → List Bool
evened x = extended (other_digits x)

-- a code of even distance becomes one of the same length, size and distance whose weights are all even: a place is
-- punctured, and a parity digit put in front
pub spread-evened : (n d : ℕ) (cs : List (List Bool)) → d % 2 ≡ 1 → IsSpread (suc n) (suc d) cs → IsSpread (suc n) (suc d) (map evened cs)
spread-evened n d cs odd spread =
    subst (IsSpread (suc n) (suc d)) (map-map extended other_digits cs)
    (spread_extended n d odd (map other_digits cs) (spread-punctured n d cs spread))

pub weights-evened : (cs : List (List Bool)) → All (λ x. ones x % 2 ≡ 0) (map evened cs)
weights-evened cs = All-map (λ x. ones x % 2 ≡ 0) evened cs (λ k z l. ones-extended (other_digits (get_or cs k z)))

-- half of the words of a length have weights of one parity
pub half_have_parity : (m b : ℕ) → b < 2 → count_by (λ x. ones x % 2 == b) (all_words (suc m)) ≡ 2 ^ m
half_have_parity m b h =
    let low : List Bool → ℕ = λ x. cond ((0 + ones x) % 2 == b) 1 0 in
    let high : List Bool → ℕ = λ x. cond ((1 + ones x) % 2 == b) 1 0 in
    let both : List Bool → ℕ = λ x. low x + high x in
    let one : List Bool → ℕ = λ x. 1 in
    let split = count_by-all_words (λ x. ones x % 2 == b) m in
    let sums = sum_by-add low high (all_words m) in
    let each = sum_by-congruence both one (all_words m) (λ x. one_of_two (ones x) b h) in
    let all = sum_by-constant 1 (all_words m) in
    let words = length-all_words m in
    omega arith
  where
    one_of_two : (t b : ℕ) → b < 2 → cond {A = ℕ} ((0 + t) % 2 == b) 1 0 + cond {A = ℕ} ((1 + t) % 2 == b) 1 0 ≡ 1
    one_of_two t b h = grind (arith, nat_tests)
