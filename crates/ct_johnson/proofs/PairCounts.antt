-- The pairs of words that both have a one at a place, and the numbers of words that are too many.
use Rattle.std.proofs.Common.{◌≡◌, ℕ, zero, suc, ◌+◌, ◌-◌, ◌*◌, ◌/◌, ◌%◌, ◌<◌, ◌≤◌, List, take, length, get_or, refl, sym, ap, subst, ◌∙◌, inl, inr, arith, leb-true}
use Rattle.std.specs.Prelude.{Bool, true, false, cond, nat_le, Option, Some, None}
use Rattle.std.specs.List.{All, sum_by}
use Rattle.std.proofs.Math.Nat.{div-add-mod, mul-le-mul_left, mul-le-mul_right, le_of_mul-le-mul_left}
use Rattle.std.proofs.lemmas.Bool.{cases_lt, le-ltb, le-leb}
use Rattle.std.proofs.lemmas.Option.{same_Some, none-some}
use Rattle.std.proofs.lemmas.List.{length-take-le}
use Rattle.std.proofs.lemmas.List.Elements.{recursion_from_All}
use Rattle.ct_words.specs.Counting.Words.{apart, ones}
use Rattle.ct_words.proofs.Counting.Sums.{sum_by-constant, sum_by-congruence_within}
use Rattle.ct_words.proofs.Counting.Pairs.{AllPairs-within}
use Rattle.ct_words.proofs.Counting.PairSums.{pair_sum, pair_sum-le}
use Rattle.ct_words.proofs.Counting.Spread.{IsSpreadOfWeight, IsWeightBound, spread-take}
use Rattle.ct_words.proofs.Counting.CommonOnes.{common_ones, ones-common, common_self, common_symmetric, columns-ge}
use Rattle.ct_words.specs.Entry.{constant_weight}
use Rattle.ct_words.specs.Code.{IsTrueUpper}
use Rattle.ct_words.proofs.DigitCodes.{bound_from_weight}
use Rattle.ct_johnson.specs.declared.columns.TheConstants.{MAX_COUNTED}
use Rattle.ct_johnson.specs.Bounds.{least_pairs, are_too_many, least_from, column_count_value}

-- both counts of the pairs together: s ones in all, p pairs, m words, q and r the quotient and the rest of the ones by
-- the places
counts_meet : (n q r b w m s p : ℕ) → s ≡ m * w → suc (2 * q) * s ≤ p + n * (q * suc q) → p + b * m ≤ b * (m * m) + w * m → w * m ≡ n * q + r → n * (q * (q - 1)) + 2 * (q * r) ≤ b * (m * (m - 1))
counts_meet n zero r b w m s p ones_are low high split = omega arith
counts_meet n (suc q) r b w zero s p ones_are low high split =
    let none : n * suc q + r ≡ 0 = omega arith in
    let times = ap (λ z. suc q * z) none in
    let less : suc q - 1 ≡ q = omega arith in
    let pairs = ap (λ z. n * (suc q * z)) less in
    omega arith
counts_meet n (suc q) r b w (suc m) s p ones_are low high split =
    let ones_times = ap (λ z. suc (2 * suc q) * z) ones_are in
    let split_times = ap (λ z. (2 * suc q) * z) split in
    let less : suc q - 1 ≡ q = omega arith in
    let pairs = ap (λ z. n * (suc q * z)) less in
    let fewer : suc m - 1 ≡ m = omega arith in
    let both = ap (λ z. b * (suc m * z)) fewer in
    omega arith

-- the words of a code are not too many
not_too_many : (n δ w : ℕ) (cs : List (List Bool)) → 1 ≤ n → δ ≤ w → IsSpreadOfWeight n (2 * δ) w cs → are_too_many n δ w (length cs) ≡ false
not_too_many n δ w cs h fits code =
    let m = length cs in
    let t = w * m in
    let P : List Bool → Type 0 = λ x. (length x ≡ n) × (ones x ≡ w) in
    let each : All P cs = λ k z l. (code.spread.lengths k z l, code.weights k z l) in
    let weight : List Bool → ℕ = λ x. w in
    let same = sum_by-congruence_within ones weight cs (recursion_from_All (λ x. ones x ≡ w) cs code.weights) in
    let words = sum_by-constant w cs in
    let low = columns-ge n (t / n) cs code.spread.lengths in
    let own : All (λ x. common_ones x x ≤ w) cs = λ k z l. let self = common_self (get_or cs k z) in let is = code.weights k z l in omega arith in
    let few =
    AllPairs-within P (λ x y. 2 * δ ≤ apart x y) (λ x y. common_ones x y ≤ w - δ) cs
    (λ x y p q far. let a = p.1 in let b = q.1 in let sum = ones-common x y (p.0 ∙ sym q.0) in omega arith) each code.spread.distances in
    let high = pair_sum-le (w - δ) w common_ones cs common_symmetric own few in
    let split : t ≡ n * (t / n) + t % n = sym (div-add-mod t n) in
    le-ltb ((w - δ) * (m * (m - 1))) (least_pairs n t)
    (counts_meet n (t / n) (t % n) (w - δ) w m (sum_by ones cs) (pair_sum common_ones cs) (same ∙ words) low high split)

-- so where a number is too many, each code has fewer words
pub weight_bound-columns : (n δ w m : ℕ) → 1 ≤ n → δ ≤ w → are_too_many n δ w m ≡ true → IsWeightBound n (2 * δ) w (m - 1)
weight_bound-columns n δ w m h fits fails cs code =
    elim (cases_lt (length cs) m) [
      | inl fewer ↦ omega arith
      | inr more ↦
          let first = not_too_many n δ w (take m cs) h fits (spread-take n (2 * δ) w m cs code) in
          let many = ap (are_too_many n δ w) (length-take-le m cs more) in
          absurd cc
    ]

-- the product of two numbers is at most a quarter of the square of their sum
pub quarter : (r s : ℕ) → 4 * (r * s) ≤ (r + s) * (r + s)
quarter r s =
    elim (cases_lt r s) [
      | inl less ↦
          let is : r + (s - r) ≡ s = omega arith in
          subst (λ z. 4 * (r * z) ≤ (r + z) * (r + z)) is (greater r (s - r))
      | inr more ↦
          let is : s + (r - s) ≡ r = omega arith in
          subst (λ z. 4 * (z * s) ≤ (z + s) * (z + s)) is (smaller s (r - s))
    ]
  where
    greater : (r k : ℕ) → 4 * (r * (r + k)) ≤ (r + (r + k)) * (r + (r + k))
    greater r k = omega arith

    smaller : (s k : ℕ) → 4 * ((s + k) * s) ≤ ((s + k) + s) * ((s + k) + s)
    smaller s k = omega arith

-- n times the least pairs of t = n(p + 1) + r ones, and n·t, are t² + r·s, where n = r + s
pairs_times : (n p r s t : ℕ) → n ≡ r + s → t ≡ n * suc p + r
    → n * (n * (suc p * p) + 2 * (suc p * r)) + n * t ≡ t * t + r * s
pairs_times n p r s t split ones_are =
    let square = ap (λ z. z * z) ones_are in
    let times = ap (λ z. n * z) ones_are in
    let rest = ap (λ z. z * r) split in
    omega arith

-- few pairs, where w² ≤ a·n for w = a + δ, and 4δm ≥ n: then n times the least pairs is at most n·a·m(m - 1)
few_pairs_at : (n p r s a δ k : ℕ) → n ≡ r + s → 1 ≤ n → (a + δ) * suc k ≡ n * suc p + r → (a + δ) * (a + δ) ≤ a * n
    → n ≤ 4 * δ * suc k → n * (suc p * p) + 2 * (suc p * r) ≤ a * (suc k * k)
few_pairs_at n p r s a δ k parts some split wide long =
    let scaled = pairs_times n p r s ((a + δ) * suc k) parts split in
    let square = mul-le-mul_right (suc k * suc k) wide in
    let part = quarter r s in
    let whole = ap (λ z. z * z) parts in
    let places = mul-le-mul_left n long in
    let times : n * (n * (suc p * p) + 2 * (suc p * r)) ≤ n * (a * (suc k * k)) = omega arith in
    le_of_mul-le-mul_left times some

few_pairs : (n q r a δ m : ℕ) → r < n → (a + δ) * m ≡ n * q + r → (a + δ) * (a + δ) ≤ a * n → n ≤ 4 * δ * m
    → n * (q * (q - 1)) + 2 * (q * r) ≤ a * (m * (m - 1))
few_pairs n zero r a δ m rest split wide long = omega arith
few_pairs n (suc p) r a δ zero rest split wide long = absurd (omega arith)
few_pairs n (suc p) r a δ (suc k) rest split wide long =
    let parts : n ≡ r + (n - r) = omega arith in
    let less : suc p - 1 ≡ p = omega arith in
    let fewer : suc k - 1 ≡ k = omega arith in
    rw (less, fewer) (few_pairs_at n p r (n - r) a δ k parts (omega arith) split wide long)

-- so from there on no number is too many
pub not_too_many-from : (n δ w m : ℕ) → 1 ≤ n → δ ≤ w → w * w ≤ (w - δ) * n → n ≤ 4 * δ * m → are_too_many n δ w m ≡ false
not_too_many-from n δ w m some fits wide long =
    let weight : w - δ + δ ≡ w = omega arith in
    let split : w * m ≡ n * (w * m / n) + w * m % n = sym (div-add-mod (w * m) n) in
    let rest : w * m % n < n = omega arith in
    le-ltb ((w - δ) * (m * (m - 1))) (least_pairs n (w * m))
    (few_pairs n (w * m / n) (w * m % n) (w - δ) δ m rest
    (subst (λ v. v * m ≡ n * (w * m / n) + w * m % n) (sym weight) split)
    (subst (λ v. v * v ≤ (w - δ) * n) (sym weight) wide) long)

-- a test that fails at the first numbers and then passes
pub least_from-found : (test : ℕ → Bool) (j k a : ℕ) → ((i : ℕ) → a ≤ i → i < a + j → test i ≡ false) → test (a + j) ≡ true → j < k → least_from test a k ≡ Some (a + j)
unfolding least_from
least_from-found test j zero a before here within = absurd (omega arith)
least_from-found test zero (suc k) a before here within =
    let place : a + 0 ≡ a = omega arith in
    let passes : test a ≡ true = sym (ap test place) ∙ here in
    rw (place, passes) refl
least_from-found test (suc j) (suc k) a before here within =
    let place : a + 1 + j ≡ a + suc j = omega arith in
    let fails = before a (omega arith) (omega arith) in
    let rest = least_from-found test j k (a + 1) (λ i l m. before i (omega arith) (omega arith)) (ap test place ∙ here) (omega arith) in
    rw fails (rest ∙ ap Some place)

-- a test that fails at all of them
pub least_from-none : (test : ℕ → Bool) (k a : ℕ) → ((i : ℕ) → a ≤ i → i < a + k → test i ≡ false) → least_from test a k ≡ None
unfolding least_from
least_from-none test zero a all = refl
least_from-none test (suc k) a all =
    let fails = all a (omega arith) (omega arith) in
    let rest = least_from-none test k (a + 1) (λ i l m. all i (omega arith) (omega arith)) in
    rw fails rest

-- what is found passes the test
least_from-passes : (test : ℕ → Bool) (k a m : ℕ) → least_from test a k ≡ Some m → (a ≤ m) × (test m ≡ true)
unfolding least_from
least_from-passes test zero a m is = absurd (none-some m is)
least_from-passes test (suc k) a m is =
    let later = least_from-passes test k (a + 1) m in
    go (test a) refl (λ found. let rest = later found in (omega (arith, rest.0), rest.1)) is
  where
    go : (b : Bool) → test a ≡ b → (least_from test (a + 1) k ≡ Some m → (a ≤ m) × (test m ≡ true))
        → cond b (Some a) (least_from test (a + 1) k) ≡ Some m → (a ≤ m) × (test m ≡ true)
    go true passes later is =
        let same = same_Some a m is in
        (omega arith, sym (ap test same) ∙ passes)
    go false fails later is = later is

-- one word fewer than are too many bounds every code
pub columns_sound : (n d w m : ℕ) → 1 ≤ n → d % 2 ≡ 0 → column_count_value n d w ≡ Some m
    → (2 ≤ m) × IsTrueUpper (constant_weight n d w) (m - 1)
columns_sound n d w m some even is =
    let both = cond_some_too (nat_le (d / 2) w) (least_from (are_too_many n (d / 2) w) 2 (MAX_COUNTED - 1)) m is in
    let found = least_from-passes (are_too_many n (d / 2) w) (MAX_COUNTED - 1) 2 m both.1 in
    let double : 2 * (d / 2) ≡ d = omega arith in
    let bound = weight_bound-columns n (d / 2) w m some (leb-true (d / 2) w both.0) found.1 in
    (found.0, bound_from_weight n d w (m - 1) (subst (λ e. IsWeightBound n e w (m - 1)) double bound))
  where
    cond_some_too : (b : Bool) (o : Option ℕ) (m : ℕ) → cond b o None ≡ Some m → (b ≡ true) × (o ≡ Some m)
    cond_some_too true o m is = (refl, is)
    cond_some_too false o m is = absurd (none-some m is)

-- the value where a number is found
pub value_found : (n d w m : ℕ) → d / 2 ≤ w → 2 ≤ m → m ≤ MAX_COUNTED → ((k : ℕ) → 2 ≤ k → k < m → are_too_many n (d / 2) w k ≡ false) → are_too_many n (d / 2) w m ≡ true → column_count_value n d w ≡ Some m
value_found n d w m fits some few before here =
    let place : 2 + (m - 2) ≡ m = omega arith in
    let found =
    least_from-found (are_too_many n (d / 2) w) (m - 2) (MAX_COUNTED - 1) 2 (λ i l k. before i l (omega arith)) (ap (are_too_many n (d / 2) w) place ∙ here) (omega arith) in
    rw (le-leb (d / 2) w fits) (found ∙ ap Some place)

-- the value where none is
pub value_none : (n d w : ℕ) → d / 2 ≤ w → ((k : ℕ) → 2 ≤ k → k < MAX_COUNTED + 1 → are_too_many n (d / 2) w k ≡ false) → column_count_value n d w ≡ None
value_none n d w fits all =
    let none = least_from-none (are_too_many n (d / 2) w) (MAX_COUNTED - 1) 2 (λ i l k. all i l (omega arith)) in
    rw (le-leb (d / 2) w fits) none

-- one more number that was tried
pub tried_more : (test : ℕ → Bool) (m : ℕ) → ((k : ℕ) → 2 ≤ k → k < m → test k ≡ false) → test m ≡ false → (k : ℕ) → 2 ≤ k → k < m + 1 → test k ≡ false
tried_more test m tried here k some below = elim (cases_lt k m) [
  | inl before ↦ tried k some before
  | inr after ↦ let same : m ≡ k = omega arith in subst (λ j. test j ≡ false) same here
]
