-- The bound is one, after each round, and at least 1.
use Rattle.std.proofs.Common.{◌≡◌, ℕ, zero, suc, ◌+◌, ◌-◌, ◌*◌, ◌/◌, ◌%◌, ◌^◌, ◌≤◌, min, refl, subst, inl, inr, arith, le_trans}
use Rattle.std.specs.Prelude.{Bool, true, false, cond, Some}
use Rattle.std.proofs.Math.Nat.{mul-le-mul, mul-le-mul_left, pow-le-pow_right}
use Rattle.std.proofs.lemmas.Bool.{cases_lt, lt-ltb, le-ltb, le-leb}
use Rattle.std.proofs.lemmas.Nat.{le-div}
use Rattle.ct_words.specs.declared.limits.TheConstants.{MAX_N, MAX_BOUND}
use Rattle.ct_words.specs.Counting.Binomials.{choose}
use Rattle.ct_words.proofs.Counting.Binomials.{choose-le, one-le-choose}
use Rattle.ct_words.proofs.Counting.Choices.{choose-product-le}
use Rattle.ct_johnson.specs.declared.columns.TheConstants.{MAX_COUNTED}
use Rattle.ct_johnson.specs.Bounds.{least_from}
use Rattle.ct_doubly.specs.Doubly.{are_too_many_by_squares, below_found, counted_bound, shortened_bound, doubly_after}
use Rattle.ct_doubly.proofs.Halves.{IsHalvesBound, lesser_bound}
use Rattle.ct_doubly.proofs.CountedWords.{far_bound, all_bound}
use Rattle.ct_doubly.proofs.SquareCounts.{too_many_bound}
use Rattle.ct_doubly.proofs.DoublyOnePlace.{first_one_bound, first_zero_bound, last_one_bound, last_zero_bound}

-- what holds of u, and of the lesser of u and m - 1 for each m that passes the test, holds where the first such m is looked for
below_found-has : (P : ℕ → Type 0) (test : ℕ → Bool) (k a u : ℕ) → P u → ((m : ℕ) → a ≤ m → test m ≡ true → P (min (m - 1) u))
    → P (below_found (least_from test a k) u)
unfolding least_from
below_found-has P test zero a u all each = all
below_found-has P test (suc k) a u all each =
    by_test (test a) refl (below_found-has P test k (a + 1) u all (λ m more passes. each m (omega arith) passes))
  where
    by_test : (b : Bool) → test a ≡ b → P (below_found (least_from test (a + 1) k) u)
        → P (below_found (cond b (Some a) (least_from test (a + 1) k)) u)
    by_test true passes rest = each a (omega arith) passes
    by_test false fails rest = rest

-- at how many places two words of these weights can differ, at most
abbrev most_apart : ℕ → ℕ → ℕ → ℕ → ℕ
most_apart n1 w1 n2 w2 = 2 * (min w1 (n1 - w1) + min w2 (n2 - w2))

-- how many words of these weights there are, or the greatest bound of the table
abbrev word_count : ℕ → ℕ → ℕ → ℕ → ℕ
word_count n1 w1 n2 w2 = min (choose n1 w1 * choose n2 w2) MAX_BOUND

-- there are no more words of these weights than that bound
all-le : (n1 w1 n2 w2 : ℕ) → n1 + n2 ≤ MAX_N → choose n1 w1 * choose n2 w2 ≤ MAX_BOUND
all-le n1 w1 n2 w2 short =
    let both = choose-product-le n1 n2 w1 w2 in
    let all = choose-le (n1 + n2) (w1 + w2) in
    let power : 2 ^ (n1 + n2) ≤ 2 ^ MAX_N = pow-le-pow_right (omega arith) short in
    omega arith

-- the bound that asks for no other is one
counted_sound : (n1 w1 n2 w2 d : ℕ) → n1 + n2 ≤ MAX_N → 1 ≤ d → d % 2 ≡ 0 → IsHalvesBound n1 w1 n2 w2 d (counted_bound n1 w1 n2 w2 d)
counted_sound n1 w1 n2 w2 d short some even =
    elim (cases_lt (most_apart n1 w1 n2 w2) d) [
      | inl far ↦ rw (lt-ltb (most_apart n1 w1 n2 w2) d far) (far_bound n1 w1 n2 w2 d far)
      | inr near ↦
          let all : IsHalvesBound n1 w1 n2 w2 d (word_count n1 w1 n2 w2) = λ cs code.
          let words = all_bound n1 w1 n2 w2 d some cs code in
          let few = all-le n1 w1 n2 w2 short in
          omega arith in
          rw (le-ltb (most_apart n1 w1 n2 w2) d near)
          (below_found-has (IsHalvesBound n1 w1 n2 w2 d) (are_too_many_by_squares n1 w1 n2 w2 (d / 2)) (MAX_COUNTED - 1) 2 (word_count n1 w1 n2 w2) all
          (λ m more passes.
          lesser_bound n1 w1 n2 w2 d (m - 1) (word_count n1 w1 n2 w2) (counted m near passes) all))
    ]
  where
    counted : (m : ℕ) → d ≤ most_apart n1 w1 n2 w2 → are_too_many_by_squares n1 w1 n2 w2 (d / 2) m ≡ true → IsHalvesBound n1 w1 n2 w2 d (m - 1)
    counted m near passes =
        let double : 2 * (d / 2) ≡ d = omega arith in
        subst (λ e. IsHalvesBound n1 w1 n2 w2 e (m - 1)) double (too_many_bound n1 w1 n2 w2 (d / 2) m (omega arith) passes)

-- the lesser of a bound and of a quotient that is one where there is one
shortened_sound : (n1 w1 n2 w2 d n k v u : ℕ) → (1 ≤ k → IsHalvesBound n1 w1 n2 w2 d (n * v / k)) → IsHalvesBound n1 w1 n2 w2 d u
    → IsHalvesBound n1 w1 n2 w2 d (shortened_bound n k v u)
shortened_sound n1 w1 n2 w2 d n zero v u quotient bound = bound
shortened_sound n1 w1 n2 w2 d n (suc k) v u quotient bound =
    let some : 1 ≤ suc k = omega arith in
    rw (le-leb 1 (suc k) some) (lesser_bound n1 w1 n2 w2 d (n * v / suc k) u (quotient some) bound)

-- so the bound is one after each round
pub doubly_after-sound : (s n1 w1 n2 w2 d : ℕ) → w1 ≤ n1 → w2 ≤ n2 → n1 + n2 ≤ MAX_N → 1 ≤ d → d % 2 ≡ 0
    → IsHalvesBound n1 w1 n2 w2 d (doubly_after s n1 w1 n2 w2 d)
unfolding doubly_after
doubly_after-sound zero n1 w1 n2 w2 d first last short some even = counted_sound n1 w1 n2 w2 d short some even
doubly_after-sound (suc s) n1 w1 n2 w2 d first last short some even =
    shortened_sound n1 w1 n2 w2 d n1 w1 (doubly_after s (n1 - 1) (w1 - 1) n2 w2 d) _
    (λ h. first_one_bound n1 w1 n2 w2 d (doubly_after s (n1 - 1) (w1 - 1) n2 w2 d) (omega arith) h
    (doubly_after-sound s (n1 - 1) (w1 - 1) n2 w2 d (omega arith) last (omega arith) some even))
    (shortened_sound n1 w1 n2 w2 d n1 (n1 - w1) (doubly_after s (n1 - 1) w1 n2 w2 d) _
    (λ h. first_zero_bound n1 w1 n2 w2 d (doubly_after s (n1 - 1) w1 n2 w2 d) (omega arith)
    (doubly_after-sound s (n1 - 1) w1 n2 w2 d (omega arith) last (omega arith) some even))
    (shortened_sound n1 w1 n2 w2 d n2 w2 (doubly_after s n1 w1 (n2 - 1) (w2 - 1) d) _
    (λ h. last_one_bound n1 w1 n2 w2 d (doubly_after s n1 w1 (n2 - 1) (w2 - 1) d) (omega arith) h
    (doubly_after-sound s n1 w1 (n2 - 1) (w2 - 1) d first (omega arith) (omega arith) some even))
    (shortened_sound n1 w1 n2 w2 d n2 (n2 - w2) (doubly_after s n1 w1 (n2 - 1) w2 d) _
    (λ h. last_zero_bound n1 w1 n2 w2 d (doubly_after s n1 w1 (n2 - 1) w2 d) (omega arith)
    (doubly_after-sound s n1 w1 (n2 - 1) w2 d first (omega arith) (omega arith) some even))
    (doubly_after-sound s n1 w1 n2 w2 d first last short some even))))

-- a quotient by no more than the factor is at least 1, and so is the lesser of it and of a bound
one-le-shortened : (n k v u : ℕ) → k ≤ n → (1 ≤ k → 1 ≤ v) → 1 ≤ u → 1 ≤ shortened_bound n k v u
one-le-shortened n zero v u within some more = more
one-le-shortened n (suc k) v u within some more =
    let all : 1 ≤ suc k = omega arith in
    let times = mul-le-mul_left n (some all) in
    let quotient = le-div 1 (n * v) (suc k) (omega arith) (omega arith) in
    rw (le-leb 1 (suc k) all) (omega arith)

-- the bound that asks for no other is at least 1
one-le-counted : (n1 w1 n2 w2 d : ℕ) → w1 ≤ n1 → w2 ≤ n2 → 1 ≤ counted_bound n1 w1 n2 w2 d
one-le-counted n1 w1 n2 w2 d first last =
    elim (cases_lt (most_apart n1 w1 n2 w2) d) [
      | inl far ↦ rw (lt-ltb (most_apart n1 w1 n2 w2) d far) (omega arith)
      | inr near ↦
          let words = mul-le-mul (one-le-choose n1 w1 first) (one-le-choose n2 w2 last) in
          let all : 1 ≤ word_count n1 w1 n2 w2 = omega arith in
          rw (le-ltb (most_apart n1 w1 n2 w2) d near)
          (below_found-has (λ v. 1 ≤ v) (are_too_many_by_squares n1 w1 n2 w2 (d / 2)) (MAX_COUNTED - 1) 2 (word_count n1 w1 n2 w2) all
          (λ m more passes. omega arith))
    ]

-- and the bound after each round
pub one-le-doubly_after : (s n1 w1 n2 w2 d : ℕ) → w1 ≤ n1 → w2 ≤ n2 → 1 ≤ doubly_after s n1 w1 n2 w2 d
unfolding doubly_after
one-le-doubly_after zero n1 w1 n2 w2 d first last = one-le-counted n1 w1 n2 w2 d first last
one-le-doubly_after (suc s) n1 w1 n2 w2 d first last =
    one-le-shortened n1 w1 (doubly_after s (n1 - 1) (w1 - 1) n2 w2 d) _ first
    (λ h. one-le-doubly_after s (n1 - 1) (w1 - 1) n2 w2 d (omega arith) last)
    (one-le-shortened n1 (n1 - w1) (doubly_after s (n1 - 1) w1 n2 w2 d) _ (omega arith)
    (λ h. one-le-doubly_after s (n1 - 1) w1 n2 w2 d (omega arith) last)
    (one-le-shortened n2 w2 (doubly_after s n1 w1 (n2 - 1) (w2 - 1) d) _ last
    (λ h. one-le-doubly_after s n1 w1 (n2 - 1) (w2 - 1) d first (omega arith))
    (one-le-shortened n2 (n2 - w2) (doubly_after s n1 w1 (n2 - 1) w2 d) _ (omega arith)
    (λ h. one-le-doubly_after s n1 w1 (n2 - 1) w2 d first (omega arith))
    (one-le-doubly_after s n1 w1 n2 w2 d first last))))

-- no quotient makes a bound greater
shortened-le : (n k v u : ℕ) → shortened_bound n k v u ≤ u
shortened-le n zero v u = omega arith
shortened-le n (suc k) v u = rw (le-leb 1 (suc k) (omega arith)) (omega arith)

-- the bound that asks for no other is at most the greatest one
counted-le : (n1 w1 n2 w2 d : ℕ) → counted_bound n1 w1 n2 w2 d ≤ MAX_BOUND
counted-le n1 w1 n2 w2 d =
    elim (cases_lt (most_apart n1 w1 n2 w2) d) [
      | inl far ↦ rw (lt-ltb (most_apart n1 w1 n2 w2) d far) (omega arith)
      | inr near ↦
          rw (le-ltb (most_apart n1 w1 n2 w2) d near)
          (below_found-has (λ v. v ≤ MAX_BOUND) (are_too_many_by_squares n1 w1 n2 w2 (d / 2)) (MAX_COUNTED - 1) 2 (word_count n1 w1 n2 w2) (omega arith)
          (λ m more passes. omega arith))
    ]

-- and so is the bound after each round
pub doubly_after-le : (s n1 w1 n2 w2 d : ℕ) → doubly_after s n1 w1 n2 w2 d ≤ MAX_BOUND
unfolding doubly_after
doubly_after-le zero n1 w1 n2 w2 d = counted-le n1 w1 n2 w2 d
doubly_after-le (suc s) n1 w1 n2 w2 d =
    let before = doubly_after s n1 w1 n2 w2 d in
    let last_zero = shortened_bound n2 (n2 - w2) (doubly_after s n1 w1 (n2 - 1) w2 d) before in
    let last_one = shortened_bound n2 w2 (doubly_after s n1 w1 (n2 - 1) (w2 - 1) d) last_zero in
    let first_zero = shortened_bound n1 (n1 - w1) (doubly_after s (n1 - 1) w1 n2 w2 d) last_one in
    let a = shortened-le n1 w1 (doubly_after s (n1 - 1) (w1 - 1) n2 w2 d) first_zero in
    let b = shortened-le n1 (n1 - w1) (doubly_after s (n1 - 1) w1 n2 w2 d) last_one in
    let c = shortened-le n2 w2 (doubly_after s n1 w1 (n2 - 1) (w2 - 1) d) last_zero in
    let e = shortened-le n2 (n2 - w2) (doubly_after s n1 w1 (n2 - 1) w2 d) before in
    let most = doubly_after-le s n1 w1 n2 w2 d in
    le_trans a (le_trans b (le_trans c (le_trans e most)))
