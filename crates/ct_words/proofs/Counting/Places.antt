-- The distances of all pairs of words, counted place by place.
use Rattle.std.proofs.Common.{◌≡◌, ℕ, zero, suc, ◌+◌, ◌*◌, ◌≤◌, List, [], ◌∷◌, map, length, refl, ◌∙◌, arith}
use Rattle.std.specs.Prelude.{Bool, true, false, cond}
use Rattle.std.specs.List.{All, sum_by}
use Rattle.std.proofs.lemmas.List.{length-map}
use Rattle.std.proofs.lemmas.List.Elements.{All-map}
use Rattle.std.proofs.lemmas.List.Sums.{sum_by-cons}
use Rattle.ct_words.specs.Counting.Words.{apart, differ, ones}
use Rattle.ct_words.proofs.Counting.Sums.{sum_by-zero, sum_by-congruence}
use Rattle.ct_words.proofs.Counting.PairSums.{pair_sum, pair_sum-cons, pair_sum-map, pair_sum-add, pair_sum-congruence_within}

-- 1 where two digits differ, and 0 where they are equal
abbrev pub difference : Bool → Bool → ℕ
difference a b = cond (differ a b) 1 0

-- how many digits are 0
abbrev pub zeros : List Bool → ℕ
zeros [] = 0
zeros (a ∷ x) = cond a 0 1 + zeros x

pub ones-zeros : (x : List Bool) → ones x + zeros x ≡ length x
ones-zeros [] = refl
ones-zeros (false ∷ x) = let ih = ones-zeros x in omega arith
ones-zeros (true ∷ x) = let ih = ones-zeros x in omega arith

-- the digits that differ from 0 are the ones, from either side
differ_from_zero : (x : List Bool) → sum_by (difference false) x ≡ ones x
differ_from_zero [] = refl
differ_from_zero (false ∷ x) = let ih = differ_from_zero x in omega (arith, sum_by-cons (difference false) false x)
differ_from_zero (true ∷ x) = let ih = differ_from_zero x in omega (arith, sum_by-cons (difference false) true x)

zero_differs_from : (x : List Bool) → sum_by (λ b. difference b false) x ≡ ones x
zero_differs_from [] = refl
zero_differs_from (false ∷ x) = let ih = zero_differs_from x in omega (arith, sum_by-cons (λ b. difference b false) false x)
zero_differs_from (true ∷ x) = let ih = zero_differs_from x in omega (arith, sum_by-cons (λ b. difference b false) true x)

-- the digits that differ from 1 are the zeros, from either side
differ_from_one : (x : List Bool) → sum_by (difference true) x ≡ zeros x
differ_from_one [] = refl
differ_from_one (false ∷ x) = let ih = differ_from_one x in omega (arith, sum_by-cons (difference true) false x)
differ_from_one (true ∷ x) = let ih = differ_from_one x in omega (arith, sum_by-cons (difference true) true x)

one_differs_from : (x : List Bool) → sum_by (λ b. difference b true) x ≡ zeros x
one_differs_from [] = refl
one_differs_from (false ∷ x) = let ih = one_differs_from x in omega (arith, sum_by-cons (λ b. difference b true) false x)
one_differs_from (true ∷ x) = let ih = one_differs_from x in omega (arith, sum_by-cons (λ b. difference b true) true x)

-- the ordered pairs of digits of a column that differ: a one and a zero, either way round
pub column_pairs : (x : List Bool) → pair_sum difference x ≡ 2 * (ones x * zeros x)
column_pairs [] = refl
column_pairs (false ∷ x) =
    let ih = column_pairs x in
    let more = pair_sum-cons difference false x in
    let a = differ_from_zero x in
    let b = zero_differs_from x in
    omega arith
column_pairs (true ∷ x) =
    let ih = column_pairs x in
    let more = pair_sum-cons difference true x in
    let a = differ_from_one x in
    let b = one_differs_from x in
    omega arith

-- the first digit of a word, and the word without it
abbrev pub first_digit : List Bool → Bool
first_digit [] = false
first_digit (a ∷ x) = a

abbrev pub other_digits : List Bool → List Bool
other_digits [] = []
other_digits (a ∷ x) = x

-- the distance of two words by their first digit and the others
pub apart-first : (m : ℕ) (x y : List Bool) → length x ≡ suc m → length y ≡ suc m → apart x y ≡ difference (first_digit x) (first_digit y) + apart (other_digits x) (other_digits y)
apart-first m [] y h k = absurd (omega arith)
apart-first m (a ∷ x) [] h k = absurd (omega arith)
apart-first m (a ∷ x) (b ∷ y) h k = refl

pub other_length : (m : ℕ) (x : List Bool) → length x ≡ suc m → length (other_digits x) ≡ m
other_length m [] h = absurd (omega arith)
other_length m (a ∷ x) h = omega arith

-- empty words differ nowhere
pub apart-empty : (x y : List Bool) → length x ≡ 0 → length y ≡ 0 → apart x y ≡ 0
apart-empty [] y h k = refl
apart-empty (a ∷ x) y h k = absurd (omega arith)

-- nothing over all pairs
pub pair_sum-nothing : (cs : List (List Bool)) → pair_sum (λ x y. 0) cs ≡ 0
pair_sum-nothing cs =
    sum_by-congruence (λ x. sum_by (λ y. 0) cs) (λ x. 0) cs (λ x. sum_by-zero cs) ∙ sum_by-zero cs

-- the distances of all pairs, where the pairs that differ in a column are bounded
pub distances-le : (n b size : ℕ) (cs : List (List Bool)) → All (λ x. length x ≡ n) cs → length cs ≡ size → ((column : List Bool) → length column ≡ size → 2 * pair_sum difference column ≤ b) → 2 * pair_sum apart cs ≤ n * b
distances-le zero b size cs lengths many bound =
    let nothing : List Bool → List Bool → ℕ = λ x y. 0 in
    let same = pair_sum-congruence_within (λ x. length x ≡ 0) apart nothing cs apart-empty lengths in
    let none = pair_sum-nothing cs in
    omega arith
distances-le (suc n) b size cs lengths many bound =
    let split : List Bool → List Bool → ℕ = λ x y. difference (first_digit x) (first_digit y) + apart (other_digits x) (other_digits y) in
    let same = pair_sum-congruence_within (λ x. length x ≡ suc n) apart split cs (apart-first n) lengths in
    let sums = pair_sum-add (λ x y. difference (first_digit x) (first_digit y)) (λ x y. apart (other_digits x) (other_digits y)) cs in
    let column = pair_sum-map difference first_digit cs in
    let others = pair_sum-map apart other_digits cs in
    let column_bound = bound (map first_digit cs) (length-map cs first_digit ∙ many) in
    let rest_lengths : All (λ x. length x ≡ n) (map other_digits cs) =
    All-map (λ x. length x ≡ n) other_digits cs (λ k d l. other_length n _ (lengths k d l)) in
    let ih = distances-le n b size (map other_digits cs) rest_lengths (length-map cs other_digits ∙ many) bound in
    omega arith
