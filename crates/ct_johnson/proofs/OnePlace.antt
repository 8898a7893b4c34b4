-- Words counted by their digits at a place: each place bounds the words with a one there, and those with a zero.
use Rattle.std.proofs.Common.{◌≡◌, ℕ, zero, suc, ◌+◌, ◌-◌, ◌*◌, ◌/◌, ◌<◌, ◌≤◌, List, length, refl, arith}
use Rattle.std.proofs.lemmas.Nat.{le-div}
use Rattle.std.proofs.lemmas.List.Elements.{recursion_from_All}
use Rattle.std.specs.Prelude.{Bool, true, false}
use Rattle.ct_words.specs.Counting.Words.{ones}
use Rattle.ct_words.proofs.Counting.Sums.{sum_by-constant, sum_by-congruence_within, sum_below-bound}
use Rattle.ct_words.proofs.Counting.Spread.{IsSpreadOfWeight, IsWeightBound}
use Rattle.ct_words.proofs.Counting.Complements.{complement_bound}
use Rattle.ct_words.proofs.Counting.Shortened.{shortened, weight-shortened, length-halves, ones-by_places}

-- the ones of all words: w for each word, and at most u at each place
pub one_at_places : (n d w u : ℕ) → IsWeightBound n d w u → (cs : List (List Bool)) → IsSpreadOfWeight (suc n) d (suc w) cs → length cs * suc w ≤ suc n * u
one_at_places n d w u bound cs code =
    let weight : List Bool → ℕ = λ x. suc w in
    let same = sum_by-congruence_within ones weight cs (recursion_from_All (λ x. ones x ≡ suc w) cs code.weights) in
    let words = sum_by-constant (suc w) cs in
    let places = ones-by_places (suc n) cs code.spread.lengths in
    let most =
    sum_below-bound (λ p. length (shortened p true cs)) u (suc n)
    (λ p h. bound (shortened p true cs) (weight-shortened n d (suc w) w p true cs h (omega arith) code)) in
    omega arith

-- a bound of the same entry, told otherwise
same_bound : (m n d v w u : ℕ) → m ≡ n → v ≡ w → IsWeightBound m d v u → IsWeightBound n d w u
same_bound m n d v w u e f bound cs code = bound cs (rw (e, f) code)

-- ⌊n·u / w⌋
pub weight_bound-one : (n d w u : ℕ) → 1 ≤ n → 1 ≤ w → IsWeightBound (n - 1) d (w - 1) u → IsWeightBound n d w (n * u / w)
weight_bound-one zero d w u h k bound cs code = absurd (omega arith)
weight_bound-one (suc n) d zero u h k bound cs code = absurd (omega arith)
weight_bound-one (suc n) d (suc w) u h k bound cs code =
    let here = same_bound (suc n - 1) n d (suc w - 1) w u (omega arith) (omega arith) bound in
    le-div (length cs) (suc n * u) (suc w) (omega arith) (one_at_places n d w u here cs code)

-- the zeros are the ones of the complements: ⌊n·u / (n - w)⌋
pub weight_bound-zero : (n d w u : ℕ) → w < n → IsWeightBound (n - 1) d w u → IsWeightBound n d w (n * u / (n - w))
weight_bound-zero n d w u h bound =
    complement_bound n d w (n - w) (n * u / (n - w)) (omega arith)
    (weight_bound-one n d (n - w) u (omega arith) (omega arith) (complement_bound (n - 1) d (n - w - 1) w u (omega arith) bound))

-- the words with a zero at the first place, and those with a one
pub weight_bound-halves : (n d w u v : ℕ) → 1 ≤ n → 1 ≤ w → IsWeightBound (n - 1) d w u → IsWeightBound (n - 1) d (w - 1) v → IsWeightBound n d w (u + v)
weight_bound-halves zero d w u v h k zeros ones cs code = absurd (omega arith)
weight_bound-halves (suc n) d zero u v h k zeros ones cs code = absurd (omega arith)
weight_bound-halves (suc n) d (suc w) u v h k zeros ones cs code =
    let with_one = same_bound (suc n - 1) n d (suc w - 1) w v (omega arith) (omega arith) ones in
    let with_zero = same_bound (suc n - 1) n d (suc w) (suc w) u (omega arith) refl zeros in
    let high = with_one (shortened 0 true cs) (weight-shortened n d (suc w) w 0 true cs (omega arith) (omega arith) code) in
    let low = with_zero (shortened 0 false cs) (weight-shortened n d (suc w) (suc w) 0 false cs (omega arith) (omega arith) code) in
    let both = length-halves 0 cs in
    omega arith
