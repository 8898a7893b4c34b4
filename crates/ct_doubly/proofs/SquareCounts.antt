-- The squares of the numbers of ones at the places, counted by places and by pairs of words, and the numbers of words that are too many.
use Rattle.std.proofs.Common.{◌≡◌, ℕ, zero, suc, ◌+◌, ◌-◌, ◌*◌, ◌/◌, ◌%◌, ◌≤◌, List, map, take, length, get_or, sym, ap, subst, ◌∙◌, inl, inr, arith}
use Rattle.std.specs.Prelude.{Bool, true, false}
use Rattle.std.specs.List.{All, sum_by}
use Rattle.std.proofs.Math.Nat.{div-add-mod}
use Rattle.std.proofs.lemmas.Bool.{cases_lt, le-ltb}
use Rattle.std.proofs.lemmas.List.{length-take-le}
use Rattle.std.proofs.lemmas.List.Elements.{All-map, recursion_from_All}
use Rattle.ct_words.specs.Counting.Words.{ones}
use Rattle.ct_words.proofs.Counting.Sums.{sum_by-constant, sum_by-congruence_within, sum_by-map}
use Rattle.ct_words.proofs.Counting.Pairs.{AllPairs-within}
use Rattle.ct_words.proofs.Counting.PairSums.{pair_sum, pair_sum-le, pair_sum-add, pair_sum-map}
use Rattle.ct_words.proofs.Counting.CommonOnes.{common_ones, ones-common, common_self, common_symmetric, columns-ge}
use Rattle.ct_doubly.specs.Doubly.{least_squares, are_too_many_by_squares}
use Rattle.ct_doubly.proofs.Halves.{Halves, first_half, last_half, IsHalf, AreHalves, halves_apart, AreFarHalves, IsHalvesBound, far_take}

-- the pairs of words with a one at a place, place by place, are at least the least squares
squares-le : (n q r w m s p : ℕ) → s ≡ m * w → suc (2 * q) * s ≤ p + n * (q * suc q) → w * m ≡ n * q + r → n * (q * q) + 2 * (q * r) + r ≤ p
squares-le n q r w m s p ones_are low split =
    let all : s ≡ n * q + r = omega arith in
    let times = ap (λ z. suc (2 * q) * z) all in
    omega arith

-- for halves of one length and one weight
half_squares : (n w : ℕ) (half : Halves → List Bool) (cs : List Halves) → All (λ c. IsHalf n w (half c)) cs
    → least_squares n (w * length cs) ≤ pair_sum (λ b c. common_ones (half b) (half c)) cs
half_squares n w half cs halves =
    let m = length cs in
    let t = w * m in
    let each : Halves → ℕ = λ c. ones (half c) in
    let weight : Halves → ℕ = λ c. w in
    let turned = sum_by-map ones half cs in
    let same = sum_by-congruence_within each weight cs (recursion_from_All (λ c. each c ≡ w) cs (λ k z l. (halves k z l).weight)) in
    let words = sum_by-constant w cs in
    let low = columns-ge n (t / n) (map half cs) (All-map (λ x. length x ≡ n) half cs (λ k z l. (halves k z l).long)) in
    let pairs = pair_sum-map common_ones half cs in
    let split : t ≡ n * (t / n) + t % n = sym (div-add-mod t n) in
    let most =
    squares-le n (t / n) (t % n) w m (sum_by ones (map half cs)) (pair_sum common_ones (map half cs)) (turned ∙ same ∙ words) low split in
    omega arith

-- both counts together: b + δ ones in each word, at most b in common
squares-meet : (b δ m p : ℕ) → p + b * m ≤ b * (m * m) + (b + δ) * m → δ * (m * (m - 1)) + p ≤ (b + δ) * (m * m)
squares-meet b δ zero p high = omega arith
squares-meet b δ (suc k) p high =
    let less : suc k - 1 ≡ k = omega arith in
    let pairs = ap (λ z. δ * (suc k * z)) less in
    omega arith

-- at how many places two words both have a one
abbrev both_common : Halves → Halves → ℕ
both_common b c = common_ones (first_half b) (first_half c) + common_ones (last_half b) (last_half c)

-- the words of a list are not too many
not_too_many : (n1 w1 n2 w2 δ : ℕ) (cs : List Halves) → δ ≤ w1 + w2 → AreFarHalves n1 w1 n2 w2 (2 * δ) cs
    → are_too_many_by_squares n1 w1 n2 w2 δ (length cs) ≡ false
not_too_many n1 w1 n2 w2 δ cs fits code =
    let m = length cs in
    let w = w1 + w2 in
    let b = w1 + w2 - δ in
    let first = half_squares n1 w1 first_half cs (λ k z l. (code.halves k z l).first) in
    let last = half_squares n2 w2 last_half cs (λ k z l. (code.halves k z l).last) in
    let firsts : Halves → Halves → ℕ = λ b c. common_ones (first_half b) (first_half c) in
    let lasts : Halves → Halves → ℕ = λ b c. common_ones (last_half b) (last_half c) in
    let sum : pair_sum both_common cs ≡ pair_sum firsts cs + pair_sum lasts cs = pair_sum-add firsts lasts cs in
    let own : All (λ c. both_common c c ≤ w) cs =
    λ k z l.
    let c = get_or cs k z in
    let is = code.halves k z l in
    let one = common_self (first_half c) in
    let other = common_self (last_half c) in
    let weight = is.first.weight in
    let weight_too = is.last.weight in
    omega arith in
    let few =
    AllPairs-within (AreHalves n1 w1 n2 w2) (λ x y. 2 * δ ≤ halves_apart x y) (λ x y. both_common x y ≤ b) cs in_common code.halves code.distances in
    let high = pair_sum-le b w both_common cs symmetric own few in
    let whole : b + δ ≡ w = omega arith in
    let within = subst (λ v. pair_sum both_common cs + b * m ≤ b * (m * m) + v * m) (sym whole) high in
    let meet = subst (λ v. δ * (m * (m - 1)) + pair_sum both_common cs ≤ v * (m * m)) whole (squares-meet b δ m (pair_sum both_common cs) within) in
    le-ltb (w * (m * m)) (δ * (m * (m - 1)) + (least_squares n1 (w1 * m) + least_squares n2 (w2 * m))) (omega arith)
  where
    symmetric : (x y : Halves) → both_common x y ≡ both_common y x
    symmetric x y =
        let one = common_symmetric (first_half x) (first_half y) in
        let other = common_symmetric (last_half x) (last_half y) in
        omega arith

    in_common : (x y : Halves) → AreHalves n1 w1 n2 w2 x → AreHalves n1 w1 n2 w2 y → 2 * δ ≤ halves_apart x y → both_common x y ≤ w1 + w2 - δ
    in_common x y h k far =
        let one = ones-common (first_half x) (first_half y) (h.first.long ∙ sym k.first.long) in
        let other = ones-common (last_half x) (last_half y) (h.last.long ∙ sym k.last.long) in
        let a = h.first.weight in
        let b = k.first.weight in
        let c = h.last.weight in
        let d = k.last.weight in
        omega arith

-- so where a number is too many, there are fewer words
pub too_many_bound : (n1 w1 n2 w2 δ m : ℕ) → δ ≤ w1 + w2 → are_too_many_by_squares n1 w1 n2 w2 δ m ≡ true → IsHalvesBound n1 w1 n2 w2 (2 * δ) (m - 1)
too_many_bound n1 w1 n2 w2 δ m fits fails cs code =
    elim (cases_lt (length cs) m) [
      | inl fewer ↦ omega arith
      | inr more ↦
          let first = not_too_many n1 w1 n2 w2 δ (take m cs) fits (far_take n1 w1 n2 w2 (2 * δ) m cs code) in
          let many = ap (are_too_many_by_squares n1 w1 n2 w2 δ) (length-take-le m cs more) in
          absurd cc
    ]
