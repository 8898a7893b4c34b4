-- Sums of the places of ones: two words of one weight that differ at two places alone have sums that differ by less than the length.
use Rattle.std.proofs.Common.{◌≡◌, ℕ, zero, suc, ◌+◌, ◌<◌, ◌≤◌, Bool, not, ◌==◌, if◌then◌else◌, refl, ap, ap₂, inl, inr, arith, eqb-true}
use Rattle.std.specs.Prelude.{◌⊎◌}
use Rattle.std.proofs.lemmas.Bool.{not-false}
use Rattle.ct_words.specs.Word.{places}
use Rattle.ct_words.proofs.WordLemmas.{one, places_same, none_from_places}
use Rattle.ct_sum_classes.specs.SumClass.{sum_of_places}

-- sums of the places below n are told by the tests there
pub sum_of_places_same : (f g : ℕ → Bool) (n : ℕ) → ((p : ℕ) → p < n → f p ≡ g p) → sum_of_places f n ≡ sum_of_places g n
sum_of_places_same f g zero same = refl
sum_of_places_same f g (suc n) same =
    ap₂ (λ i j. i + j) (ap (λ b. if b then n else 0) (same n (omega arith))) (sum_of_places_same f g n (λ p h. same p (omega arith)))

-- a digit is 0 or 1
abbrev pub IsDigits : (ℕ → ℕ) → Type 0
IsDigits a = (p : ℕ) → a p < 2

two_digits : (t : ℕ) → t < 2 → (t ≡ 0) ⊎ (t ≡ 1)
two_digits zero h = inl refl
two_digits (suc zero) h = inr refl
two_digits (suc (suc t)) h = absurd (omega arith)

-- of the first m digits: how many are ones, the sum of their places, and how many differ from others
abbrev ones : (ℕ → ℕ) → ℕ → ℕ
ones a m = places (λ p. a p == 1) m

abbrev pub sums : (ℕ → ℕ) → ℕ → ℕ
sums a m = sum_of_places (λ p. a p == 1) m

abbrev differing : (ℕ → ℕ) → (ℕ → ℕ) → ℕ → ℕ
differing a b m = places (λ p. not (a p == b p)) m

-- where none differ, the digits are the same
same_digits : (a b : ℕ → ℕ) (m : ℕ) → differing a b m ≡ 0 → (p : ℕ) → p < m → a p ≡ b p
same_digits a b m none p h = eqb-true (a p) (b p) (not-false (a p == b p) (none_from_places (λ q. not (a q == b q)) m none p h))

same_ones : (a b : ℕ → ℕ) (m : ℕ) → differing a b m ≡ 0 → ones a m ≡ ones b m
same_ones a b m none = places_same (λ p. a p == 1) (λ p. b p == 1) m (λ p h. ap (λ t. t == 1) (same_digits a b m none p h))

same_sums : (a b : ℕ → ℕ) (m : ℕ) → differing a b m ≡ 0 → sums a m ≡ sums b m
same_sums a b m none = sum_of_places_same (λ p. a p == 1) (λ p. b p == 1) m (λ p h. ap (λ t. t == 1) (same_digits a b m none p h))

-- one one more, and no other difference: the sums differ by its place
one_more : (a b : ℕ → ℕ) (m : ℕ) → IsDigits a → IsDigits b → differing a b m ≡ 1 → ones a m ≡ suc (ones b m)
    → (sums b m ≤ sums a m) × (sums a m < sums b m + m)
one_more a b zero binary binary' one_differs more = absurd (omega arith)
one_more a b (suc m) binary binary' one_differs more = elim (two_digits (a m) (binary m)) [
  | inl a0 ↦ elim (two_digits (b m) (binary' m)) [
    | inl b0 ↦
        let oa = ap (λ t. one (t == 1)) a0 in
        let ob = ap (λ t. one (t == 1)) b0 in
        let sa = ap (λ t. if t == 1 then m else 0) a0 in
        let sb = ap (λ t. if t == 1 then m else 0) b0 in
        let d = ap₂ (λ s t. one (not (s == t))) a0 b0 in
        let rest = one_more a b m binary binary' (omega arith) (omega arith) in
        let low = rest.0 in
        let high = rest.1 in
        (omega arith, omega arith)
    | inr b1 ↦
        let oa = ap (λ t. one (t == 1)) a0 in
        let ob = ap (λ t. one (t == 1)) b1 in
        let d = ap₂ (λ s t. one (not (s == t))) a0 b1 in
        let same = same_ones a b m (omega arith) in
        absurd (omega arith)
  ]
  | inr a1 ↦ elim (two_digits (b m) (binary' m)) [
    | inl b0 ↦
        let oa = ap (λ t. one (t == 1)) a1 in
        let ob = ap (λ t. one (t == 1)) b0 in
        let sa = ap (λ t. if t == 1 then m else 0) a1 in
        let sb = ap (λ t. if t == 1 then m else 0) b0 in
        let d = ap₂ (λ s t. one (not (s == t))) a1 b0 in
        let same = same_sums a b m (omega arith) in
        (omega arith, omega arith)
    | inr b1 ↦
        let oa = ap (λ t. one (t == 1)) a1 in
        let ob = ap (λ t. one (t == 1)) b1 in
        let sa = ap (λ t. if t == 1 then m else 0) a1 in
        let sb = ap (λ t. if t == 1 then m else 0) b1 in
        let d = ap₂ (λ s t. one (not (s == t))) a1 b1 in
        let rest = one_more a b m binary binary' (omega arith) (omega arith) in
        let low = rest.0 in
        let high = rest.1 in
        (omega arith, omega arith)
  ]
]

-- how many differ is the same from either side
differing_turned : (a b : ℕ → ℕ) (m : ℕ) → IsDigits a → IsDigits b → differing a b m ≡ differing b a m
differing_turned a b m binary binary' =
    places_same (λ p. not (a p == b p)) (λ p. not (b p == a p)) m (λ p h. turned (a p) (b p) (binary p) (binary' p))
  where
    turned : (s t : ℕ) → s < 2 → t < 2 → not (s == t) ≡ not (t == s)
    turned s t h k = elim (two_digits s h) [
      | inl s0 ↦ elim (two_digits t k) [ inl t0 ↦ rw (s0, t0) refl | inr t1 ↦ rw (s0, t1) refl ]
      | inr s1 ↦ elim (two_digits t k) [ inl t0 ↦ rw (s1, t0) refl | inr t1 ↦ rw (s1, t1) refl ]
    ]

-- one is below the other, and by less than m
abbrev pub AreNear : ℕ → ℕ → ℕ → Type 0
AreNear m s t = ((s < t) × (t < s + m)) ⊎ ((t < s) × (s < t + m))

near_more : (m s t c : ℕ) → AreNear m s t → AreNear (suc m) (c + s) (c + t)
near_more m s t c (inl h) = let low = h.0 in let high = h.1 in inl (omega arith, omega arith)
near_more m s t c (inr h) = let low = h.0 in let high = h.1 in inr (omega arith, omega arith)

-- two differences, and as many ones: the sums differ by less than the length, and are not equal
pub sums_of_two : (a b : ℕ → ℕ) (m : ℕ) → IsDigits a → IsDigits b → differing a b m ≡ 2 → ones a m ≡ ones b m
    → AreNear m (sums a m) (sums b m)
sums_of_two a b zero binary binary' two_differ same = absurd (omega arith)
sums_of_two a b (suc m) binary binary' two_differ same = elim (two_digits (a m) (binary m)) [
  | inl a0 ↦ elim (two_digits (b m) (binary' m)) [
    | inl b0 ↦
        let oa = ap (λ t. one (t == 1)) a0 in
        let ob = ap (λ t. one (t == 1)) b0 in
        let d = ap₂ (λ s t. one (not (s == t))) a0 b0 in
        rw (a0, b0) (near_more m (sums a m) (sums b m) 0 (sums_of_two a b m binary binary' (omega arith) (omega arith)))
    | inr b1 ↦
        let oa = ap (λ t. one (t == 1)) a0 in
        let ob = ap (λ t. one (t == 1)) b1 in
        let sa = ap (λ t. if t == 1 then m else 0) a0 in
        let sb = ap (λ t. if t == 1 then m else 0) b1 in
        let d = ap₂ (λ s t. one (not (s == t))) a0 b1 in
        let rest = one_more a b m binary binary' (omega arith) (omega arith) in
        let low = rest.0 in
        let high = rest.1 in
        inl (omega arith, omega arith)
  ]
  | inr a1 ↦ elim (two_digits (b m) (binary' m)) [
    | inl b0 ↦
        let oa = ap (λ t. one (t == 1)) a1 in
        let ob = ap (λ t. one (t == 1)) b0 in
        let sa = ap (λ t. if t == 1 then m else 0) a1 in
        let sb = ap (λ t. if t == 1 then m else 0) b0 in
        let d = ap₂ (λ s t. one (not (s == t))) a1 b0 in
        let turned = differing_turned a b m binary binary' in
        let rest = one_more b a m binary' binary (omega arith) (omega arith) in
        let low = rest.0 in
        let high = rest.1 in
        inr (omega arith, omega arith)
    | inr b1 ↦
        let oa = ap (λ t. one (t == 1)) a1 in
        let ob = ap (λ t. one (t == 1)) b1 in
        let d = ap₂ (λ s t. one (not (s == t))) a1 b1 in
        rw (a1, b1) (near_more m (sums a m) (sums b m) m (sums_of_two a b m binary binary' (omega arith) (omega arith)))
  ]
]
