-- The places where two words both have a one.
use Rattle.std.proofs.Common.{◌≡◌, ℕ, zero, suc, ◌+◌, ◌-◌, ◌*◌, ◌%◌, ◌<◌, ◌≤◌, List, [], ◌∷◌, map, length, refl, sym, ap, ◌∙◌, inl, inr, arith}
use Rattle.std.specs.Prelude.{Bool, true, false, cond, count_by}
use Rattle.std.specs.List.{All, AllPairs, sum_by}
use Rattle.std.proofs.lemmas.Bool.{cases_lt}
use Rattle.std.proofs.lemmas.List.Elements.{All-map, recursion_from_All}
use Rattle.std.proofs.lemmas.List.Sums.{sum_by-cons}
use Rattle.ct_words.specs.Counting.Words.{apart, ones}
use Rattle.ct_words.proofs.Counting.Sums.{sum_by-zero, sum_by-add, sum_by-map, sum_by-constant, sum_by-congruence_within}
use Rattle.ct_words.proofs.Counting.Pairs.{AllPairs-map, AllPairs-weaker, AllPairs-within}
use Rattle.ct_words.proofs.Counting.Spread.{IsSpreadOfWeight}
use Rattle.ct_words.proofs.Counting.PairSums.{pair_sum, pair_sum-cons, pair_sum-add, pair_sum-map, pair_sum-congruence_within}
use Rattle.ct_words.proofs.Counting.DoubleCounting.{count_by-le_one}
use Rattle.ct_words.proofs.Counting.Places.{first_digit, other_digits, other_length}

-- 1 where both digits are 1
abbrev pub both : Bool → Bool → ℕ
both true b = cond b 1 0
both false b = 0

-- at how many places two words both have a one
abbrev pub common_ones : List Bool → List Bool → ℕ
common_ones [] y = 0
common_ones (a ∷ x) [] = 0
common_ones (a ∷ x) (b ∷ y) = both a b + common_ones x y

-- the weights of two words are their distance, and the common ones twice
pub ones-common : (x y : List Bool) → length x ≡ length y → ones x + ones y ≡ apart x y + 2 * common_ones x y
ones-common [] [] h = omega arith
ones-common [] (b ∷ y) h = absurd (omega arith)
ones-common (a ∷ x) [] h = absurd (omega arith)
ones-common (false ∷ x) (false ∷ y) h = let ih = ones-common x y (omega arith) in omega arith
ones-common (false ∷ x) (true ∷ y) h = let ih = ones-common x y (omega arith) in omega arith
ones-common (true ∷ x) (false ∷ y) h = let ih = ones-common x y (omega arith) in omega arith
ones-common (true ∷ x) (true ∷ y) h = let ih = ones-common x y (omega arith) in omega arith

-- a word has its own ones in common with itself
pub common_self : (x : List Bool) → common_ones x x ≡ ones x
common_self [] = omega arith
common_self (false ∷ x) = let ih = common_self x in omega arith
common_self (true ∷ x) = let ih = common_self x in omega arith

-- the common ones of two words, in either order
pub common_symmetric : (x y : List Bool) → common_ones x y ≡ common_ones y x
common_symmetric [] [] = omega arith
common_symmetric [] (b ∷ y) = omega arith
common_symmetric (a ∷ x) [] = omega arith
common_symmetric (false ∷ x) (false ∷ y) = let ih = common_symmetric x y in omega arith
common_symmetric (false ∷ x) (true ∷ y) = let ih = common_symmetric x y in omega arith
common_symmetric (true ∷ x) (false ∷ y) = let ih = common_symmetric x y in omega arith
common_symmetric (true ∷ x) (true ∷ y) = let ih = common_symmetric x y in omega arith

-- the common ones by the first digit and the others
common-first : (m : ℕ) (x y : List Bool) → length x ≡ suc m → length y ≡ suc m → common_ones x y ≡ both (first_digit x) (first_digit y) + common_ones (other_digits x) (other_digits y)
common-first m [] y h k = absurd (omega arith)
common-first m (a ∷ x) [] h k = absurd (omega arith)
common-first m (a ∷ x) (b ∷ y) h k = refl

-- the ones by the first digit and the others
ones-first : (m : ℕ) (x : List Bool) → length x ≡ suc m → ones x ≡ cond (first_digit x) 1 0 + ones (other_digits x)
ones-first m [] h = absurd (omega arith)
ones-first m (a ∷ x) h = refl

-- the others of all words
pub lengths-others : (m : ℕ) (cs : List (List Bool)) → All (λ x. length x ≡ suc m) cs → All (λ x. length x ≡ m) (map other_digits cs)
lengths-others m cs lengths = All-map (λ x. length x ≡ m) other_digits cs (λ k d l. other_length m _ (lengths k d l))

-- the ones of all words by the first digits and the others
ones-firsts : (m : ℕ) (cs : List (List Bool)) → All (λ x. length x ≡ suc m) cs → sum_by ones cs ≡ count_by first_digit cs + sum_by ones (map other_digits cs)
ones-firsts m cs lengths =
    let first : List Bool → ℕ = λ x. cond (first_digit x) 1 0 in
    let rest : List Bool → ℕ = λ x. ones (other_digits x) in
    let split : List Bool → ℕ = λ x. first x + rest x in
    let same = sum_by-congruence_within ones split cs (recursion_from_All (λ x. ones x ≡ split x) cs (λ k d l. ones-first m _ (lengths k d l))) in
    let sums = sum_by-add first rest cs in
    let others = sum_by-map ones other_digits cs in
    omega arith

-- a word without digits has no ones
ones-empty : (x : List Bool) → length x ≡ 0 → ones x ≡ 0
ones-empty [] h = refl
ones-empty (a ∷ x) h = absurd (omega arith)

none-empty : (cs : List (List Bool)) → All (λ x. length x ≡ 0) cs → sum_by ones cs ≡ 0
none-empty cs lengths =
    sum_by-congruence_within ones (λ x. 0) cs (recursion_from_All (λ x. ones x ≡ 0) cs (λ k d l. ones-empty _ (lengths k d l)))
    ∙ sum_by-zero cs

-- two words with no common ones do not both begin with one
one_begins : (x y : List Bool) → common_ones x y ≡ 0 → first_digit x ≡ true → first_digit y ≡ false
one_begins [] y h e = absurd cc
one_begins (a ∷ x) [] h e = refl
one_begins (false ∷ x) (b ∷ y) h e = absurd cc
one_begins (true ∷ x) (false ∷ y) h e = refl
one_begins (true ∷ x) (true ∷ y) h e = absurd (omega arith)

none_in_others : (x y : List Bool) → common_ones x y ≡ 0 → common_ones (other_digits x) (other_digits y) ≡ 0
none_in_others [] y h = refl
none_in_others (a ∷ []) [] h = refl
none_in_others (a ∷ b ∷ x) [] h = refl
none_in_others (a ∷ x) (b ∷ y) h = omega arith

-- words no two of which have a one in common have at most n ones, in n places
pub disjoint_ones : (n : ℕ) (cs : List (List Bool)) → All (λ x. length x ≡ n) cs → AllPairs (λ x y. common_ones x y ≡ 0) cs → sum_by ones cs ≤ n
disjoint_ones zero cs lengths h = let none = none-empty cs lengths in omega arith
disjoint_ones (suc n) cs lengths h =
    let split = ones-firsts n cs lengths in
    let first =
    count_by-le_one first_digit cs
    (AllPairs-weaker (λ x y. common_ones x y ≡ 0) (λ x y. first_digit x ≡ true → first_digit y ≡ false) cs one_begins h) in
    let others =
    AllPairs-map (λ x y. common_ones x y ≡ 0) other_digits cs
    (AllPairs-weaker (λ x y. common_ones x y ≡ 0) (λ x y. common_ones (other_digits x) (other_digits y) ≡ 0) cs none_in_others h) in
    let ih = disjoint_ones n (map other_digits cs) (lengths-others n cs lengths) others in
    omega arith

-- the ones of a column, and its pairs of ones
ones_with_one : (x : List Bool) → sum_by (both true) x ≡ ones x
ones_with_one [] = refl
ones_with_one (false ∷ x) = let ih = ones_with_one x in omega (arith, sum_by-cons (both true) false x)
ones_with_one (true ∷ x) = let ih = ones_with_one x in omega (arith, sum_by-cons (both true) true x)

one_with_ones : (x : List Bool) → sum_by (λ b. both b true) x ≡ ones x
one_with_ones [] = refl
one_with_ones (false ∷ x) = let ih = one_with_ones x in omega (arith, sum_by-cons (λ b. both b true) false x)
one_with_ones (true ∷ x) = let ih = one_with_ones x in omega (arith, sum_by-cons (λ b. both b true) true x)

none_with_zero : (x : List Bool) → sum_by (λ b. both b false) x ≡ 0
none_with_zero [] = refl
none_with_zero (false ∷ x) = let ih = none_with_zero x in omega (arith, sum_by-cons (λ b. both b false) false x)
none_with_zero (true ∷ x) = let ih = none_with_zero x in omega (arith, sum_by-cons (λ b. both b false) true x)

-- the ordered pairs of ones of a column, a one with itself too
pub pairs_of_ones : (x : List Bool) → pair_sum both x ≡ ones x * ones x
pairs_of_ones [] = refl
pairs_of_ones (false ∷ x) =
    let ih = pairs_of_ones x in
    let more = pair_sum-cons both false x in
    let a = sum_by-zero x in
    let b = none_with_zero x in
    omega arith
pairs_of_ones (true ∷ x) =
    let ih = pairs_of_ones x in
    let more = pair_sum-cons both true x in
    let a = ones_with_one x in
    let b = one_with_ones x in
    omega arith

-- a square lies above the line through the squares of two neighbours
pub square-ge : (q k : ℕ) → suc (2 * q) * k ≤ k * k + q * suc q
square-ge q k =
    elim (cases_lt q k) [
      | inl above ↦ rw (above_is q k above) (gap_above q (k - suc q))
      | inr below ↦ rw (below_is q k below) (gap_below k (q - k))
    ]
  where
    gap_above : (q t : ℕ) → suc (2 * q) * (suc q + t) ≤ (suc q + t) * (suc q + t) + q * suc q
    gap_above q t = omega arith

    gap_below : (k t : ℕ) → suc (2 * (k + t)) * k ≤ k * k + (k + t) * suc (k + t)
    gap_below k t = omega arith

    above_is : (q k : ℕ) → q < k → k ≡ suc q + (k - suc q)
    above_is q k h = omega arith

    below_is : (q k : ℕ) → k ≤ q → q ≡ k + (q - k)
    below_is q k h = omega arith

-- the pairs of words that both hold a one, counted place by place: with the ones of all words spread as evenly as can
-- be over the places there are fewest
pub columns-ge : (n q : ℕ) (cs : List (List Bool)) → All (λ x. length x ≡ n) cs → suc (2 * q) * sum_by ones cs ≤ pair_sum common_ones cs + n * (q * suc q)
columns-ge zero q cs lengths =
    let none = ap (λ s. suc (2 * q) * s) (none-empty cs lengths) in
    omega arith
columns-ge (suc n) q cs lengths =
    let split : List Bool → List Bool → ℕ = λ x y. both (first_digit x) (first_digit y) + common_ones (other_digits x) (other_digits y) in
    let same = pair_sum-congruence_within (λ x. length x ≡ suc n) common_ones split cs (common-first n) lengths in
    let sums = pair_sum-add (λ x y. both (first_digit x) (first_digit y)) (λ x y. common_ones (other_digits x) (other_digits y)) cs in
    let column = pair_sum-map both first_digit cs in
    let others = pair_sum-map common_ones other_digits cs in
    let pairs = pairs_of_ones (map first_digit cs) in
    let k = ones (map first_digit cs) in
    let square = square-ge q k in
    let count = ones-map first_digit cs in
    let words = ap (λ s. suc (2 * q) * s) (ones-firsts n cs lengths) in
    let counted = ap (λ s. suc (2 * q) * s) count in
    let ih = columns-ge n q (map other_digits cs) (lengths-others n cs lengths) in
    omega arith
  where
    ones-map : {X : Type 0} (p : X → Bool) (xs : List X) → ones (map p xs) ≡ count_by p xs
    ones-map p [] = refl
    ones-map {X} p (x ∷ xs) =
        let ih = ones-map p xs in
        let term : X → ℕ = λ y. cond (p y) 1 0 in
        omega (arith, sum_by-cons term x xs)

-- two words of one weight differ at an even number of places, so an odd distance grows
pub spread-even_distance : (n d w : ℕ) (cs : List (List Bool)) → d % 2 ≡ 1 → IsSpreadOfWeight n d w cs → IsSpreadOfWeight n (suc d) w cs
spread-even_distance n d w cs odd code =
    let P : List Bool → Type 0 = λ x. (length x ≡ n) × (ones x ≡ w) in
    let each : All P cs = λ k z l. (code.spread.lengths k z l, code.weights k z l) in
    record {
      spread =
          record {
            lengths = code.spread.lengths;
            distances =
                AllPairs-within P (λ x y. d ≤ apart x y) (λ x y. suc d ≤ apart x y) cs
                (λ x y p q far. let a = p.1 in let b = q.1 in let sum = ones-common x y (p.0 ∙ sym q.0) in omega arith) each code.spread.distances;
          };
      weights = code.weights;
    }

-- words of weight w at distance 2w - 1 at least have no one in common, so there is room for n / w
pub disjoint_words : (n d w : ℕ) (cs : List (List Bool)) → 2 * w ≤ suc d → IsSpreadOfWeight n d w cs → length cs * w ≤ n
disjoint_words n d w cs h code =
    let P : List Bool → Type 0 = λ x. (length x ≡ n) × (ones x ≡ w) in
    let each : All P cs = λ k z l. (code.spread.lengths k z l, code.weights k z l) in
    let none =
    AllPairs-within P (λ x y. d ≤ apart x y) (λ x y. common_ones x y ≡ 0) cs
    (λ x y p q far. let a = p.1 in let b = q.1 in let sum = ones-common x y (p.0 ∙ sym q.0) in omega arith) each code.spread.distances in
    let most = disjoint_ones n cs code.spread.lengths none in
    let weight : List Bool → ℕ = λ x. w in
    let same = sum_by-congruence_within ones weight cs (recursion_from_All (λ x. ones x ≡ w) cs code.weights) in
    let sum = sum_by-constant w cs in
    omega arith
