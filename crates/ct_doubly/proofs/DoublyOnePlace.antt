-- Words counted by their digits at a place of one half: each place bounds the words with a one there, and those with a zero.
use Rattle.std.proofs.Common.{◌≡◌, ℕ, zero, suc, ◌-◌, ◌*◌, ◌/◌, ◌<◌, ◌≤◌, List, map, length, ap, ap₂, arith}
use Rattle.std.specs.Prelude.{Bool, true, cond, filter}
use Rattle.std.specs.List.{All}
use Rattle.std.proofs.lemmas.Nat.{le-div}
use Rattle.std.proofs.lemmas.List.{length-map}
use Rattle.std.proofs.lemmas.List.Elements.{All-map, All-filter, filter_passes, recursion_from_All}
use Rattle.std.proofs.lemmas.List.Kept.{AllPairs-filter}
use Rattle.std.proofs.lemmas.List.Sums.{length-filter}
use Rattle.ct_words.specs.Counting.Words.{ones}
use Rattle.ct_words.proofs.Counting.Sums.{sum_by-constant, sum_by-congruence_within, sum_by-map, sum_below-bound}
use Rattle.ct_words.proofs.Counting.Places.{difference}
use Rattle.ct_words.proofs.Counting.Shortened.{digit_at, without, length-without, ones-without, apart-without, shortened, length-shortened, ones-by_places}
use Rattle.ct_doubly.proofs.Halves.{Halves, first_half, last_half, AreHalves, halves_apart, AreFarHalves, IsHalvesBound, far_images, swapped_bound, turned_bound, same_bound}

-- whether the first half has a one at the place
abbrev has_one : ℕ → Halves → Bool
has_one p c = digit_at p (first_half c)

-- the word without the place of its first half
abbrev shorter : ℕ → Halves → Halves
shorter p c = (without p (first_half c), last_half c)

-- the words with a one at the place, without it
abbrev with_one : ℕ → List Halves → List Halves
with_one p cs = map (shorter p) (filter (has_one p) cs)

-- they are as far apart, and their first halves less by the one
far_with_one : (n w n2 w2 d p : ℕ) (cs : List Halves) → p < suc n → AreFarHalves (suc n) (suc w) n2 w2 d cs → AreFarHalves n w n2 w2 d (with_one p cs)
far_with_one n w n2 w2 d p cs within code =
    let kept = filter (has_one p) cs in
    let P : Halves → Type 0 = λ c. AreHalves (suc n) (suc w) n2 w2 c × (has_one p c ≡ true) in
    let halves = All-filter (has_one p) (AreHalves (suc n) (suc w) n2 w2) cs code.halves in
    let passes = filter_passes (has_one p) cs in
    let each : All P kept = λ k z l. (halves k z l, passes k z l) in
    far_images P n w n2 w2 d (shorter p) kept less as_far each (AllPairs-filter (λ b c. d ≤ halves_apart b c) (has_one p) cs code.distances)
  where
    less : (c : Halves) → AreHalves (suc n) (suc w) n2 w2 c × (has_one p c ≡ true) → AreHalves n w n2 w2 (shorter p c)
    less c h =
        let long = h.0.first.long in
        let weight = h.0.first.weight in
        let size = length-without p (first_half c) (omega arith) in
        let split = ones-without p (first_half c) (omega arith) in
        let one : cond {A = ℕ} (digit_at p (first_half c)) 1 0 ≡ 1 = ap (λ b. cond {A = ℕ} b 1 0) h.1 in
        record { first = record { long = omega arith; weight = omega arith }; last = h.0.last }

    as_far : (b c : Halves) → AreHalves (suc n) (suc w) n2 w2 b × (has_one p b ≡ true) → AreHalves (suc n) (suc w) n2 w2 c × (has_one p c ≡ true)
        → d ≤ halves_apart b c → d ≤ halves_apart (shorter p b) (shorter p c)
    as_far b c h k far =
        let long = h.0.first.long in
        let long_too = k.0.first.long in
        let same : difference (digit_at p (first_half b)) (digit_at p (first_half c)) ≡ 0 = ap₂ difference h.1 k.1 in
        let split = apart-without p (first_half b) (first_half c) (omega arith) (omega arith) in
        omega arith

-- there are as many as first halves with the one
length-with_one : (p : ℕ) (cs : List Halves) → length (shortened p true (map first_half cs)) ≡ length (with_one p cs)
length-with_one p cs =
    let one : List Bool → ℕ = λ x. cond (digit_at p x) 1 0 in
    let firsts = length-shortened p true (map first_half cs) in
    let turned = sum_by-map one first_half cs in
    let size = length-map (filter (has_one p) cs) (shorter p) in
    let count = length-filter (has_one p) cs in
    omega arith

-- the ones of all first halves: w for each word, and at most u at each place
one_at_places : (n w n2 w2 d u : ℕ) → IsHalvesBound n w n2 w2 d u → (cs : List Halves) → AreFarHalves (suc n) (suc w) n2 w2 d cs
    → length cs * suc w ≤ suc n * u
one_at_places n w n2 w2 d u bound cs code =
    let firsts = map first_half cs in
    let weight : Halves → ℕ = λ c. suc w in
    let each : Halves → ℕ = λ c. ones (first_half c) in
    let turned = sum_by-map ones first_half cs in
    let same =
    sum_by-congruence_within each weight cs (recursion_from_All (λ c. each c ≡ suc w) cs (λ k z l. (code.halves k z l).first.weight)) in
    let words = sum_by-constant (suc w) cs in
    let places =
    ones-by_places (suc n) firsts
    (All-firsts cs code.halves) in
    let most =
    sum_below-bound (λ p. length (shortened p true firsts)) u (suc n)
    (λ p h. let size = length-with_one p cs in let few = bound (with_one p cs) (far_with_one n w n2 w2 d p cs h code) in omega arith) in
    omega arith
  where
    All-firsts : (cs : List Halves) → All (AreHalves (suc n) (suc w) n2 w2) cs → All (λ x. length x ≡ suc n) (map first_half cs)
    All-firsts cs halves = All-map (λ x. length x ≡ suc n) first_half cs (λ k z l. (halves k z l).first.long)

-- ⌊n·u / w⌋, from the words with a one at a place of the first half
pub first_one_bound : (n1 w1 n2 w2 d u : ℕ) → 1 ≤ n1 → 1 ≤ w1 → IsHalvesBound (n1 - 1) (w1 - 1) n2 w2 d u → IsHalvesBound n1 w1 n2 w2 d (n1 * u / w1)
first_one_bound zero w1 n2 w2 d u h k bound cs code = absurd (omega arith)
first_one_bound (suc n) zero n2 w2 d u h k bound cs code = absurd (omega arith)
first_one_bound (suc n) (suc w) n2 w2 d u h k bound cs code =
    let here = same_bound (suc n - 1) (suc w - 1) n w n2 w2 d u (omega arith) (omega arith) bound in
    le-div (length cs) (suc n * u) (suc w) (omega arith) (one_at_places n w n2 w2 d u here cs code)

-- ⌊n·u / (n - w)⌋, from those with a zero there
pub first_zero_bound : (n1 w1 n2 w2 d u : ℕ) → w1 < n1 → IsHalvesBound (n1 - 1) w1 n2 w2 d u → IsHalvesBound n1 w1 n2 w2 d (n1 * u / (n1 - w1))
first_zero_bound n1 w1 n2 w2 d u h bound =
    turned_bound n1 w1 (n1 - w1) n2 w2 d (n1 * u / (n1 - w1)) (omega arith)
    (first_one_bound n1 (n1 - w1) n2 w2 d u (omega arith) (omega arith)
    (turned_bound (n1 - 1) (n1 - w1 - 1) w1 n2 w2 d u (omega arith) bound))

-- the same for the last half
pub last_one_bound : (n1 w1 n2 w2 d u : ℕ) → 1 ≤ n2 → 1 ≤ w2 → IsHalvesBound n1 w1 (n2 - 1) (w2 - 1) d u → IsHalvesBound n1 w1 n2 w2 d (n2 * u / w2)
last_one_bound n1 w1 n2 w2 d u h k bound =
    swapped_bound n1 w1 n2 w2 d (n2 * u / w2)
    (first_one_bound n2 w2 n1 w1 d u h k (swapped_bound (n2 - 1) (w2 - 1) n1 w1 d u bound))

pub last_zero_bound : (n1 w1 n2 w2 d u : ℕ) → w2 < n2 → IsHalvesBound n1 w1 (n2 - 1) w2 d u → IsHalvesBound n1 w1 n2 w2 d (n2 * u / (n2 - w2))
last_zero_bound n1 w1 n2 w2 d u h bound =
    swapped_bound n1 w1 n2 w2 d (n2 * u / (n2 - w2))
    (first_zero_bound n2 w2 n1 w1 d u h (swapped_bound (n2 - 1) w2 n1 w1 d u bound))
