-- The number below a bound at which a function is greatest; the largest sum class.
use Rattle.std.proofs.Common.{◌≡◌, ℕ, zero, suc, ◌<◌, ◌≤◌, Bool, true, false, nat_lt, if◌then◌else◌, List, length, refl, sym, ap, ◌∙◌, inl, inr, ◌⊎◌, ◌+◌, Some, set, length-set, get_or-set_other, arith, ltb-true, ltb-false}
use Rattle.std.specs.Prelude.{slice_get, slice_index}
use Rattle.std.proofs.lemmas.Grind.{get_or-set_at}
use Rattle.std.proofs.lemmas.Option.{slice_get-get_or}
use Rattle.std.proofs.lemmas.Bool.{cases_eq}
use Rattle.ct_words.specs.declared.limits.TheConstants.{MAX_N, MAX_BOUND}
use Rattle.ct_sum_classes.specs.SumClass.{sum_class, greatest_below, largest_class}
use Rattle.ct_sum_classes.specs.Inside.Sizes.{IsRow}
use Rattle.ct_sum_classes.proofs.SizeLemmas.{size-le, size-is}

-- it is below the bound
either_within : (b : Bool) (i k : ℕ) → i < suc k → (if b then k else i) < suc k
either_within true i k h = omega arith
either_within false i k h = h

greatest_below-within : (f : ℕ → ℕ) (k : ℕ) → greatest_below f k < suc k
greatest_below-within f zero = omega arith
greatest_below-within f (suc k) =
    let before = greatest_below-within f k in
    let here = either_within (nat_lt (f (greatest_below f k)) (f k)) (greatest_below f k) k before in omega arith

pub greatest_below-inside : (f : ℕ → ℕ) (k : ℕ) → 1 ≤ k → greatest_below f k < k
greatest_below-inside f zero some = absurd (omega arith)
greatest_below-inside f (suc k) some =
    either_within (nat_lt (f (greatest_below f k)) (f k)) (greatest_below f k) k (greatest_below-within f k)

-- no value of the function is greater
either_most : (f : ℕ → ℕ) (b : Bool) (k j i : ℕ) → nat_lt (f j) (f k) ≡ b → (f i ≤ f k) ⊎ (f i ≤ f j) → f i ≤ f (if b then k else j)
either_most f true k j i more before = let less = ltb-true (f j) (f k) more in elim before [
  | inl here ↦ here
  | inr earlier ↦ omega arith
]
either_most f false k j i no_more before = let least = ltb-false (f j) (f k) no_more in elim before [
  | inl here ↦ omega arith
  | inr earlier ↦ earlier
]

pub greatest_below-most : (f : ℕ → ℕ) (k i : ℕ) → i < k → f i ≤ f (greatest_below f k)
greatest_below-most f zero i h = absurd (omega arith)
greatest_below-most f (suc k) i h =
    either_most f (nat_lt (f (greatest_below f k)) (f k)) k (greatest_below f k) i refl (elim (cases_eq i k) [
      | inl same ↦ inl (let e = ap f same in omega arith)
      | inr other ↦ inr (greatest_below-most f k i (omega arith))
    ])

-- functions that agree below the bound are greatest at one number
zero_either : (a b : Bool) → ◌≡◌ {A = ℕ} (if a then 0 else 0) (if b then 0 else 0)
zero_either true true = refl
zero_either true false = refl
zero_either false true = refl
zero_either false false = refl

pub greatest_below-same : (f g : ℕ → ℕ) (k : ℕ) → 1 ≤ k → ((i : ℕ) → i < k → f i ≡ g i) → greatest_below f k ≡ greatest_below g k
greatest_below-same f g zero some same = absurd (omega arith)
greatest_below-same f g (suc zero) some same = zero_either (nat_lt (f 0) (f 0)) (nat_lt (g 0) (g 0))
greatest_below-same f g (suc (suc k)) some same =
    let before = greatest_below-same f g (suc k) (omega arith) (λ i h. same i (omega arith)) in
    let inside = greatest_below-inside f (suc k) (omega arith) in
    let there = same (greatest_below f (suc k)) (omega arith) in
    let here = same (suc k) (omega arith) in
    (λ i. if nat_lt (there i) (here i) then suc k else greatest_below f (suc k))
    ∙ ap (λ m. if nat_lt (g m) (g (suc k)) then suc k else m) before

-- the largest class is one of the length
pub largest_class-within : (n w : ℕ) → 1 ≤ n → largest_class n w < n
unfolding largest_class
largest_class-within n w some = greatest_below-inside (λ r. length (sum_class n w r)) n some

-- none has more words
pub largest_class-most : (n w r : ℕ) → r < n → length (sum_class n w r) ≤ length (sum_class n w (largest_class n w))
unfolding largest_class
largest_class-most n w r within = greatest_below-most (λ s. length (sum_class n w s)) n r within

-- a class has at most as many as there are words of the greatest length
pub sum_class-few : (n w r : ℕ) → n ≤ MAX_N → length (sum_class n w r) ≤ MAX_BOUND
sum_class-few n w r few = let same = size-is n w r in let most = size-le n n w r few in omega arith

-- in a row of sizes the first of the greatest is that of the largest class
pub largest_in_row : (n w : ℕ) (row : List ℕ) → 1 ≤ n → IsRow n n w row → greatest_below (slice_index row) n ≡ largest_class n w
unfolding largest_class
largest_in_row n w row some is =
    greatest_below-same (slice_index row) (λ r. length (sum_class n w r)) n some (λ r within. is r within ∙ sym (size-is n w r))

pub size_in_row : (n w : ℕ) (row : List ℕ) → 1 ≤ n → IsRow n n w row
    → slice_index row (greatest_below (slice_index row) n) ≡ length (sum_class n w (largest_class n w))
size_in_row n w row some is =
    let at = largest_in_row n w row some is in
    ap (slice_index row) at ∙ is (largest_class n w) (largest_class-within n w some) ∙ sym (size-is n w (largest_class n w))

-- a list that has known elements below a place, and another one written there
pub known_more : {X : Type 0} (f : ℕ → X) (xs : List X) (k : ℕ) (x : X) → k < length xs → ((j : ℕ) → j < k → slice_get xs j ≡ Some (f j))
    → x ≡ f k → (j : ℕ) → j < k + 1 → slice_get (set xs k x) j ≡ Some (f j)
known_more f xs k x within known new j below =
    let long = length-set xs k x in
    slice_get-get_or (set xs k x) j x (omega arith) ∙ elim (cases_eq j k) [
      | inl same ↦ ap Some (get_or-set_at xs k j x x same within ∙ new ∙ ap f (sym same))
      | inr other ↦
          ap Some (get_or-set_other xs k j x x other)
          ∙ sym (slice_get-get_or xs j x (omega arith)) ∙ known j (omega arith)
    ]
