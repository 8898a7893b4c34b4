-- The least pair of places whose items pass a test.
use Rattle.std.proofs.Common.{◌≡◌, ℕ, ◌^◌, nat_lt, zero, suc, ◌<◌, ◌≤◌, ◌⊎◌, Bool, true, false, List, [], ◌∷◌, length, get_or, position, Some, None, IsTrue, IsFalse, All, slice_index, subst, lt_trans, sym, refl, ap, ap₂, ◌∙◌, inl, inr, arith}
use Rattle.std.specs.List.{position_or_len}
use Rattle.std.proofs.lemmas.Bool.{cases_lt, both_ways, le-ltb, lt-ltb}
use Rattle.std.proofs.lemmas.List.Sums.{fails_before_first, passes_at_first}
use Rattle.ct_words.specs.Word.{distance}
use Rattle.ct_words.proofs.WordLemmas.{distance_any_length}
use Rattle.ct_words.specs.Pairs.{least_pair, IsLeastPair, NoPair}

-- the first item that passes: its place, and what comes before it
pub record IsFirst (p : ℕ → Bool) (xs : List ℕ) (i : ℕ) : Type 0 where
  pub within : i < length xs
  pub passes : p (get_or xs i 0) ≡ true
  pub before : (k : ℕ) → k < i → p (get_or xs k 0) ≡ false

-- a list has a first item that passes, or none passes
pub position_cases : (p : ℕ → Bool) (xs : List ℕ)
    → ((i : ℕ) × (position p xs ≡ Some i) × IsFirst p xs i) ⊎ ((position p xs ≡ None) × ((k : ℕ) → k < length xs → p (get_or xs k 0) ≡ false))
position_cases p xs =
    elim (cases_lt (position_or_len p xs) (length xs)) [
      | inl h ↦ inl (
        position_or_len p xs,
        rw (lt-ltb (position_or_len p xs) (length xs) h),
        record { within = h; passes = passes_at_first p xs 0 h; before = λ k below. fails_before_first p xs k 0 below },
      )
      | inr h ↦ inr (rw (le-ltb (position_or_len p xs) (length xs) h), λ k below. fails_before_first p xs k 0 (omega arith))
    ]

-- where the first item passes with a later one, the first such is the least pair
least_from_first : (test : ℕ → ℕ → Bool) (x : ℕ) (xs : List ℕ) (i : ℕ) → IsFirst (test x) xs i → IsLeastPair test (x ∷ xs) 0 (suc i)
least_from_first test x xs i first = record { order = omega arith; within = omega arith; passes = first.passes; least = least_is }
  where
    least_is : (k m : ℕ) → k < m → m < length (x ∷ xs) → IsTrue (test (slice_index (x ∷ xs) k) (slice_index (x ∷ xs) m)) → (0 < k) ⊎ ((0 ≡ k) × (suc i ≤ m))
    least_is (suc k) m order within passes = inl (omega arith)
    least_is zero zero order within passes = absurd (omega arith)
    least_is zero (suc m) order within passes = elim (cases_lt m i) [
      | inl sooner ↦ absurd (both_ways (test x (get_or xs m 0)) (first.before m sooner) passes)
      | inr not_sooner ↦ inr (refl, omega arith)
    ]

-- where it passes with none, the least pair is that of the rest
least_from_rest : (test : ℕ → ℕ → Bool) (x : ℕ) (xs : List ℕ) (i j : ℕ) → ((k : ℕ) → k < length xs → test x (get_or xs k 0) ≡ false)
    → IsLeastPair test xs i j → IsLeastPair test (x ∷ xs) (suc i) (suc j)
least_from_rest test x xs i j no_first rest =
    let order_is = rest.order in
    let within_is = rest.within in
    record { order = omega arith; within = omega arith; passes = rest.passes; least = least_is }
  where
    shifted : (k m : ℕ) → (i < k) ⊎ ((i ≡ k) × (j ≤ m)) → (suc i < suc k) ⊎ ((suc i ≡ suc k) × (suc j ≤ suc m))
    shifted k m (inl later) = inl (omega arith)
    shifted k m (inr same) = inr (ap suc same.0, let h = same.1 in omega arith)

    least_is : (k m : ℕ) → k < m → m < length (x ∷ xs) → IsTrue (test (slice_index (x ∷ xs) k) (slice_index (x ∷ xs) m)) → (suc i < k) ⊎ ((suc i ≡ k) × (suc j ≤ m))
    least_is k zero order within passes = absurd (omega arith)
    least_is zero (suc m) order within passes = absurd (both_ways (test x (get_or xs m 0)) (no_first m (omega arith)) passes)
    least_is (suc k) (suc m) order within passes = shifted k m (rest.least k m (omega arith) (omega arith) passes)

-- and where the rest has no pair, there is none
none_from_rest : (test : ℕ → ℕ → Bool) (x : ℕ) (xs : List ℕ) → ((k : ℕ) → k < length xs → test x (get_or xs k 0) ≡ false) → NoPair test xs → NoPair test (x ∷ xs)
none_from_rest test x xs no_first rest = λ k m. go k m
  where
    go : (k m : ℕ) → k < m → m < length (x ∷ xs) → IsFalse (test (slice_index (x ∷ xs) k) (slice_index (x ∷ xs) m))
    go k zero order within = absurd (omega arith)
    go zero (suc m) order within = no_first m (omega arith)
    go (suc k) (suc m) order within = rest k m (omega arith) (omega arith)

-- a list has a least pair, and then it is found, or no pair
pub data Least (test : ℕ → ℕ → Bool) (xs : List ℕ) : Type 0 where
  found : (i j : ℕ) → least_pair test xs ≡ Some (i, j) → IsLeastPair test xs i j → Least test xs
  none : least_pair test xs ≡ None → NoPair test xs → Least test xs

pub least_cases : (test : ℕ → ℕ → Bool) (xs : List ℕ) → Least test xs
least_cases test [] = none refl (λ k m h below. absurd (omega arith))
least_cases test (x ∷ xs) = elim (position_cases (test x) xs) [
  | inl first ↦ found 0 (suc first.0) (rw first.1) (least_from_first test x xs first.0 first.2)
  | inr no_first ↦ elim (least_cases test xs) [
    | found i j is least ↦ found (suc i) (suc j) (rw (no_first.0, is)) (least_from_rest test x xs i j no_first.1 least)
    | none is no_pair ↦ none (rw (no_first.0, is)) (none_from_rest test x xs no_first.1 no_pair)
  ]
]

-- two places are before, at or after two others
before_not_after : (i j k m : ℕ) → (i < k) ⊎ ((i ≡ k) × (j ≤ m)) → (k < i) ⊎ ((k ≡ i) × (m ≤ j)) → (i ≡ k) × (j ≡ m)
before_not_after i j k m (inl h) (inl g) = absurd (omega arith)
before_not_after i j k m (inl h) (inr g) = let e = g.0 in absurd (omega arith)
before_not_after i j k m (inr h) (inl g) = let e = h.0 in absurd (omega arith)
before_not_after i j k m (inr h) (inr g) = let p = h.1 in let q = g.1 in (h.0, omega arith)

-- a pair that is the least is found
pub least_pair-at : (test : ℕ → ℕ → Bool) (xs : List ℕ) (i j : ℕ) → IsLeastPair test xs i j → least_pair test xs ≡ Some (i, j)
least_pair-at test xs i j least = elim (least_cases test xs) [
  | found k m is other ↦
      let same = before_not_after k m i j (other.least i j least.order least.within least.passes) (least.least k m other.order other.within other.passes) in
      is ∙ ap₂ (λ a b. Some (a, b)) same.0 same.1
  | none is no_pair ↦ absurd (both_ways (test (get_or xs i 0) (get_or xs j 0)) (no_pair i j least.order least.within) least.passes)
]

-- what is found is the least
pub IsLeastPair-from : (test : ℕ → ℕ → Bool) (xs : List ℕ) (i j : ℕ) → least_pair test xs ≡ Some (i, j) → IsLeastPair test xs i j
IsLeastPair-from test xs i j e = elim (least_cases test xs) [
  | found k m is other ↦
      let pair : ◌≡◌ {A = ℕ × ℕ} (k, m) (i, j) = cc in
      subst (λ (q : ℕ × ℕ). IsLeastPair test xs q.0 q.1) pair other
  | none is no_pair ↦ cc
]

-- none is found where no pair passes
pub least_pair-none : (test : ℕ → ℕ → Bool) (xs : List ℕ) → NoPair test xs → least_pair test xs ≡ None
least_pair-none test xs no_pair = elim (least_cases test xs) [
  | found i j is least ↦ absurd (both_ways (test (get_or xs i 0) (get_or xs j 0)) (no_pair i j least.order least.within) least.passes)
  | none is _ ↦ is
]

-- where none is found, no pair passes
pub NoPair-from : (test : ℕ → ℕ → Bool) (xs : List ℕ) → least_pair test xs ≡ None → NoPair test xs
NoPair-from test xs e = elim (least_cases test xs) [
  | found i j is least ↦ cc
  | none _ no_pair ↦ no_pair
]

-- two tests that agree on the items of a list find the same pair
pub least_pair_same : (P : ℕ → Type 0) (f g : ℕ → ℕ → Bool) → ((x y : ℕ) → P x → P y → f x y ≡ g x y) → (xs : List ℕ) → All P xs → least_pair f xs ≡ least_pair g xs
least_pair_same P f g same xs each = elim (least_cases f xs) [
  | found i j is least ↦
      is ∙ sym (least_pair-at g xs i j (record {
        order = least.order;
        within = least.within;
        passes = sym (agree i j (lt_trans least.order least.within) least.within) ∙ least.passes;
        least = λ k m order within passes. least.least k m order within (agree k m (lt_trans order within) within ∙ passes);
      }))
  | none is no_pair ↦ is ∙ sym (least_pair-none g xs (λ k m order within. sym (agree k m (lt_trans order within) within) ∙ no_pair k m order within))
]
  where
    agree : (i j : ℕ) → i < length xs → j < length xs → f (get_or xs i 0) (get_or xs j 0) ≡ g (get_or xs i 0) (get_or xs j 0)
    agree i j h k = same (get_or xs i 0) (get_or xs j 0) (each i 0 h) (each j 0 k)

-- the pairs of words that are closer than d do not depend on the length that the words are read at
pub close_any_length : (n m d : ℕ) (words : List ℕ) → All (λ x. x < 2 ^ n) words → All (λ x. x < 2 ^ m) words
    → least_pair (λ x y. nat_lt (distance n x y) d) words ≡ least_pair (λ x y. nat_lt (distance m x y) d) words
close_any_length n m d words below_n below_m =
    least_pair_same (λ x. (x < 2 ^ n) × (x < 2 ^ m)) (λ x y. nat_lt (distance n x y) d) (λ x y. nat_lt (distance m x y) d)
    (λ x y p q. ap (λ e. nat_lt e d) (distance_any_length n m x y p.0 q.0 p.1 q.1))
    words (λ k z h. (below_n k z h, below_m k z h))
