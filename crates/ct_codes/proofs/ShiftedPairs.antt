-- The least pair of what is left of a list after some of its items.
use Rattle.std.proofs.Common.{◌≡◌, ℕ, zero, suc, ◌+◌, ◌<◌, ◌≤◌, ◌⊎◌, Bool, List, [], ◌∷◌, length, drop, get_or, position, Option, Some, None, IsTrue, IsFalse, slice_index, sym, refl, ap, ap₂, ◌∙◌, inl, inr, arith}
use Rattle.std.specs.Option.{option_map}
use Rattle.std.proofs.lemmas.Bool.{cases_Bool, both_ways}
use Rattle.std.proofs.lemmas.List.{at_drop_more, at_drop_all}
use Rattle.ct_words.specs.Pairs.{least_pair}
use Rattle.ct_words.proofs.PairLemmas.{position_cases, IsLeastPair-from}
use Rattle.ct_codes.specs.Inside.Shifted.{shifted}

pub shifted-zero : (pair : Option (ℕ × ℕ)) → shifted 0 pair ≡ pair
shifted-zero None = refl
shifted-zero (Some p) = ap₂ (λ (a b : ℕ). Some (a, b)) (omega arith) (omega arith)

one_on : (i : ℕ) (pair : Option (ℕ × ℕ)) → shifted i (option_map (λ p. (suc p.0, suc p.1)) pair) ≡ shifted (i + 1) pair
one_on i None = refl
one_on i (Some p) = ap₂ (λ (a b : ℕ). Some (a, b)) (omega arith) (omega arith)

-- where item i passes with a later one, the first such makes the least pair of what is left
pub shifted-row_found : (test : ℕ → ℕ → Bool) (xs : List ℕ) (i j : ℕ) → i < length xs → position (test (get_or xs i 0)) (drop (i + 1) xs) ≡ Some j
    → shifted i (least_pair test (drop i xs)) ≡ Some (i, i + 1 + j)
shifted-row_found test xs i j within passed =
    ap (shifted i) (at_drop_more (least_pair test) xs i 0 within) ∙ (rw passed (ap₂ (λ (a b : ℕ). Some (a, b)) (omega arith) (omega arith)))

-- where it passes with none, the least pair is that of the items after it
pub shifted-row_passed : (test : ℕ → ℕ → Bool) (xs : List ℕ) (i : ℕ) → i < length xs → position (test (get_or xs i 0)) (drop (i + 1) xs) ≡ None
    → shifted i (least_pair test (drop i xs)) ≡ shifted (i + 1) (least_pair test (drop (i + 1) xs))
shifted-row_passed test xs i within passed =
    ap (shifted i) (at_drop_more (least_pair test) xs i 0 within) ∙ (rw passed (one_on i (least_pair test (drop (i + 1) xs))))

-- after all items no pair is left
pub shifted-end : (test : ℕ → ℕ → Bool) (xs : List ℕ) (i : ℕ) → length xs ≤ i → shifted i (least_pair test (drop i xs)) ≡ None
shifted-end test xs i all = ap (shifted i) (at_drop_all (least_pair test) xs i all)

-- a pair of the items after the first of a list, as places of the list
one_before : (i : ℕ) (pair : Option (ℕ × ℕ)) → shifted (suc i) pair ≡ option_map (λ p. (suc p.0, suc p.1)) (shifted i pair)
one_before i None = refl
one_before i (Some p) = ap₂ (λ (a b : ℕ). Some (a, b)) (omega arith) (omega arith)

-- where no item before place i passes with a later one, the least pair is that of the items from i on
pub shifted-none_before : (test : ℕ → ℕ → Bool) (xs : List ℕ) (i : ℕ)
    → ((k m : ℕ) → k < i → k < m → m < length xs → IsFalse (test (slice_index xs k) (slice_index xs m)))
    → shifted i (least_pair test (drop i xs)) ≡ least_pair test xs
shifted-none_before test xs zero fails = shifted-zero (least_pair test xs)
shifted-none_before test [] (suc i) fails = refl
shifted-none_before test (x ∷ xs) (suc i) fails = elim (position_cases (test x) xs) [
  | inl first ↦
      let within = first.2.within in
      absurd (both_ways (test x (get_or xs first.0 0)) (fails 0 (suc first.0) (omega arith) (omega arith) (omega arith)) first.2.passes)
  | inr no_first ↦
      let rest = shifted-none_before test xs i (λ k m sooner order within. fails (suc k) (suc m) (omega arith) (omega arith) (omega arith)) in
      one_before i (least_pair test (drop i xs)) ∙ ap (option_map (λ p. (suc p.0, suc p.1))) rest ∙ sym (rw no_first.0 refl)
]

-- a pair that passes a stricter test does not stand before the least pair that passes
pub shifted-stricter : (strict test : ℕ → ℕ → Bool) (xs : List ℕ) (i j : ℕ) → ((x y : ℕ) → IsTrue (strict x y) → IsTrue (test x y))
    → least_pair test xs ≡ Some (i, j) → shifted i (least_pair strict (drop i xs)) ≡ least_pair strict xs
shifted-stricter strict test xs i j stricter least = shifted-none_before strict xs i fails
  where
    not_before : (k m : ℕ) → k < i → (i < k) ⊎ ((i ≡ k) × (j ≤ m)) → ⊥
    not_before k m sooner (inl later) = omega arith
    not_before k m sooner (inr same) = let e = same.0 in omega arith

    fails : (k m : ℕ) → k < i → k < m → m < length xs → IsFalse (strict (slice_index xs k) (slice_index xs m))
    fails k m sooner order within = elim (cases_Bool (strict (slice_index xs k) (slice_index xs m))) [
      | inl passes ↦ absurd (not_before k m sooner
          ((IsLeastPair-from test xs i j least).least k m order within (stricter (slice_index xs k) (slice_index xs m) passes)))
      | inr not_passed ↦ not_passed
    ]
