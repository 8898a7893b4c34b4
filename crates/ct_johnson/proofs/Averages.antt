-- A code translated by all words of one parity: on average so many of its words have a given weight.
use Rattle.std.proofs.Common.{◌≡◌, ℕ, zero, suc, ◌+◌, ◌-◌, ◌*◌, ◌/◌, ◌%◌, ◌^◌, ◌≤◌, List, map, length, get_or, sym, ap, ◌∙◌, inl, inr, arith}
use Rattle.std.specs.Prelude.{Bool, cond, ◌==◌, count_by}
use Rattle.std.specs.List.{All}
use Rattle.std.proofs.lemmas.Bool.{cases_eq, eq-eqb, ne_eqb, cond-true}
use Rattle.std.proofs.lemmas.List.{length-map}
use Rattle.std.proofs.Math.Nat.{mul-le-mul_left}
use Rattle.std.proofs.lemmas.Nat.{le-div}
use Rattle.ct_words.specs.Counting.Binomials.{choose}
use Rattle.ct_words.specs.Counting.Words.{all_words, apart, ones}
use Rattle.ct_words.proofs.Counting.Binomials.{one-le-choose, choose-le-half}
use Rattle.ct_words.proofs.Counting.Sums.{sum_by-constant, sum_by-scale, sum_by-congruence}
use Rattle.ct_words.proofs.Counting.DoubleCounting.{double_count, count_by-none}
use Rattle.ct_words.proofs.Counting.Words.{lengths-all_words}
use Rattle.ct_words.proofs.Counting.Distances.{apart_symmetric}
use Rattle.ct_words.proofs.Counting.Spread.{IsSpread, IsSpreadBound, IsWeightBound}
use Rattle.ct_words.proofs.Counting.Spheres.{sphere_size}
use Rattle.ct_words.proofs.Counting.CommonOnes.{common_ones, ones-common}
use Rattle.ct_words.proofs.Counting.Parity.{evened, spread-evened, weights-evened, half_have_parity}
use Rattle.ct_words.proofs.Counting.Translations.{around, length-around, spread-around}
use Rattle.ct_words.specs.Entry.{constant_weight, unrestricted}
use Rattle.ct_words.specs.Code.{IsTrueUpper}
use Rattle.ct_words.proofs.DigitCodes.{bound_from_spread, weight_bound_from_codes}
use Rattle.ct_johnson.specs.Bounds.{average}
use Rattle.ct_johnson.proofs.Quotients.{div-le-div}

-- the words of a code of even weights at distance w from v are at most u, and none where v has not the parity of w
words_near : (n d w u : ℕ) → IsWeightBound n d w u → (cs : List (List Bool)) → IsSpread n d cs → All (λ x. ones x % 2 ≡ 0) cs → (v : List Bool) → length v ≡ n
    → count_by (λ x. apart x v == w) cs ≤ u * cond (ones v % 2 == w % 2) 1 0
words_near n d w u bound cs spread even v long =
    elim (cases_eq (ones v % 2) (w % 2)) [
      | inl same ↦
          let turned =
          sum_by-congruence (λ x. cond (apart x v == w) 1 0) (λ x. cond (apart v x == w) 1 0) cs
          (λ x. ap (λ t. cond {A = ℕ} (t == w) 1 0) (apart_symmetric x v)) in
          let most = bound (around v w cs) (spread-around n d w v cs long spread) in
          let count = length-around v w cs in
          let one : cond {A = ℕ} (ones v % 2 == w % 2) 1 0 ≡ 1 = cond-true (ones v % 2 == w % 2) 1 0 (eq-eqb (ones v % 2) (w % 2) same) in
          let times = ap (λ z. u * z) one in
          omega arith
      | inr other ↦
          let none =
          count_by-none (λ x. apart x v == w) cs
          (λ k z l.
          let x = get_or cs k z in
          let long_too = spread.lengths k z l in
          let weight = even k z l in
          let sum = ones-common x v (long_too ∙ sym long) in
          ne_eqb (apart x v) w (λ same. other (same_parity (ones x) (ones v) w (common_ones x v) weight (sum ∙ ap (λ z. z + 2 * common_ones x v) same)))) in
          omega arith
    ]
  where
    same_parity : (s t w k : ℕ) → s % 2 ≡ 0 → s + t ≡ w + 2 * k → t % 2 ≡ w % 2
    same_parity s t w k h e = omega arith

-- both counts, for a code of even weights
averaged : (m d w u : ℕ) → IsWeightBound (suc m) d w u → (cs : List (List Bool)) → IsSpread (suc m) d cs → All (λ x. ones x % 2 ≡ 0) cs → length cs * choose (suc m) w ≤ u * 2 ^ m
averaged m d w u bound cs spread even =
    let n = suc m in
    let each : List Bool → ℕ = λ x. choose n w in
    let one : List Bool → ℕ = λ v. cond (ones v % 2 == w % 2) 1 0 in
    let most : List Bool → ℕ = λ v. u * one v in
    let counted =
    double_count (λ x v. apart x v == w) each most cs (all_words n)
    (λ k z l. let at = sphere_size n w (get_or cs k z) (spread.lengths k z l) in omega arith)
    (λ k z l. words_near n d w u bound cs spread even (get_or (all_words n) k z) (lengths-all_words n k z l)) in
    let words = sum_by-constant (choose n w) cs in
    let scaled = sum_by-scale u one (all_words n) in
    let half = half_have_parity m (w % 2) (omega arith) in
    let times = ap (λ z. u * z) half in
    omega arith

-- ⌊2^(n - 1)·u / C(n,w)⌋, for even distances
pub spread_bound-average : (n d w u : ℕ) → 1 ≤ n → 2 ≤ d → d % 2 ≡ 0 → w ≤ n → IsWeightBound n d w u → IsSpreadBound n d (2 ^ (n - 1) * u / choose n w)
spread_bound-average zero d w u h far even fits bound cs spread = absurd (omega arith)
spread_bound-average (suc m) zero w u h far even fits bound cs spread = absurd (omega arith)
spread_bound-average (suc m) (suc d) w u h far even fits bound cs spread =
    let code = spread-evened m d cs (omega arith) spread in
    let both = averaged m (suc d) w u bound (map evened cs) code (weights-evened cs) in
    let size = length-map cs evened in
    let same = ap (λ z. z * choose (suc m) w) size in
    let power = ap (λ z. 2 ^ z * u) (pred_is m) in
    le-div (length cs) (2 ^ (suc m - 1) * u) (choose (suc m) w) (one-le-choose (suc m) w fits) (omega arith)
  where
    pred_is : (m : ℕ) → suc m - 1 ≡ m
    pred_is m = omega arith

-- so the average bounds the codes of an even distance
pub average_sound : (n d w u : ℕ) → 1 ≤ n → 2 ≤ d → d % 2 ≡ 0 → w ≤ n → IsTrueUpper (constant_weight n d w) u
    → IsTrueUpper (unrestricted n d) (average n w u)
average_sound n d w u some far even fits premise =
    bound_from_spread n d (average n w u)
    (spread_bound-average n d w u some far even fits (weight_bound_from_codes n d w u (omega arith) premise))

-- it is at least 1
pub one-le-average : (n w u : ℕ) → 1 ≤ n → w ≤ n → 1 ≤ u → 1 ≤ average n w u
one-le-average zero w u h fits some = absurd (omega arith)
one-le-average (suc m) w u h fits some =
    let most = choose-le-half m w in
    let scaled = mul-le-mul_left (2 ^ m) some in
    let power = ap (λ z. 2 ^ z * u) (pred_is m) in
    le-div 1 (2 ^ (suc m - 1) * u) (choose (suc m) w) (one-le-choose (suc m) w fits) (omega arith)
  where
    pred_is : (m : ℕ) → suc m - 1 ≡ m
    pred_is m = omega arith

-- and no greater for a better bound
pub average-le : (n w u v : ℕ) → v ≤ u → average n w v ≤ average n w u
average-le n w u v better = div-le-div (2 ^ (n - 1) * v) (2 ^ (n - 1) * u) (choose n w) (mul-le-mul_left (2 ^ (n - 1)) better)
