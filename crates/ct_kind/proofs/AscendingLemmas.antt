-- Numbers put into ascending order are those of the list, and every list of them that ascends is that one.
use Rattle.std.proofs.Common.{◌≡◌, ℕ, zero, suc, ◌+◌, ◌<◌, ◌≤◌, Bool, true, false, cond, nat_le, ◌==◌, List, [], ◌∷◌, length, refl, sym, ap, ap₂, subst, ◌∙◌, arith, leb-true, eq-eqb}
use Rattle.std.specs.Prelude.{sum_by, count_by, slice_index, slice_index_or}
use Rattle.std.specs.List.Sorted.{IsPermutation, IsSorted, IsStrictlyIncreasing}
use Rattle.std.specs.Ordering.{nat_cmp, is_lt}
use Rattle.std.specs.declared.cmp.Ordering.TheVariants.{Less, Equal, Greater}
use Rattle.std.proofs.lemmas.Bool.{leb-false, le-ltb, ne_eqb}
use Rattle.std.proofs.lemmas.List.Sorted.{sum_by-IsPermutation, IsPermutation-refl, IsPermutation-cons, IsPermutation-middle, IsPermutation-trans}
use Rattle.std.proofs.lemmas.List.Sums.{sum_by-cons}
use Rattle.ct_kind.specs.Ascending.{inserted, ascending}

-- no number of the list is below the one before it, nor the first below m
abbrev IsFrom : ℕ → List ℕ → Type 0
IsFrom m [] = Unit {0}
IsFrom m (x ∷ xs) = (m ≤ x) × IsFrom x xs

inserted-from : (m x : ℕ) (xs : List ℕ) → m ≤ x → IsFrom m xs → IsFrom m (inserted x xs)
inserted-from m x [] low h = (low, tt)
inserted-from m x (y ∷ ys) low h = at (nat_le x y) refl (λ above. inserted-from y x ys above h.1) where
  at : (b : Bool) → nat_le x y ≡ b → (y ≤ x → IsFrom y (inserted x ys)) → IsFrom m (cond b (x ∷ y ∷ ys) (y ∷ inserted x ys))
  at true e rest = (low, (leb-true x y e, h.1))
  at false e rest = let above = leb-false x y e in (h.0, rest (omega arith))

ascending-from : (xs : List ℕ) → IsFrom 0 (ascending xs)
unfolding ascending
ascending-from [] = tt
ascending-from (x ∷ xs) = inserted-from 0 x (ascending xs) (omega arith) (ascending-from xs)

sum-inserted : (f : ℕ → ℕ) (x : ℕ) (xs : List ℕ) → sum_by f (inserted x xs) ≡ f x + sum_by f xs
sum-inserted f x [] = omega arith
sum-inserted f x (y ∷ ys) = at (nat_le x y) (sum-inserted f x ys) where
  at : (b : Bool) → sum_by f (inserted x ys) ≡ f x + sum_by f ys → sum_by f (cond b (x ∷ y ∷ ys) (y ∷ inserted x ys)) ≡ f x + sum_by f (y ∷ ys)
  at true rest = sum_by-cons f x (y ∷ ys)
  at false rest =
      let first = sum_by-cons f y (inserted x ys) in
      let second = sum_by-cons f y ys in
      omega arith

sum-ascending : (f : ℕ → ℕ) (xs : List ℕ) → sum_by f (ascending xs) ≡ sum_by f xs
unfolding ascending
sum-ascending f [] = refl
sum-ascending f (x ∷ xs) = sum-inserted f x (ascending xs) ∙ ap (λ s. f x + s) (sum-ascending f xs) ∙ sym (sum_by-cons f x xs)

-- a number below all of a list does not stand in it
count-above : (x m : ℕ) (ys : List ℕ) → x < m → IsFrom m ys → count_by (λ z. z == x) ys ≡ 0
count-above x m [] below h = refl
count-above x m (y ∷ ys) below h =
    let low = h.0 in
    let other : (y == x) ≡ false = ne_eqb y x (λ same. omega arith) in
    sum_by-cons (λ z. cond (z == x) 1 0) y ys ∙ ap₂ (λ (b : Bool) (s : ℕ). cond b 1 0 + s) other (count-above x y ys (omega arith) h.1)

-- the first of two lists with the same numbers is not below the first of the other
not_below : (x y : ℕ) (xs ys : List ℕ) → IsFrom y ys → ((f : ℕ → ℕ) → sum_by f (x ∷ xs) ≡ sum_by f (y ∷ ys)) → x < y → ⊥
not_below x y xs ys h sums below =
    let none = count-above x y (y ∷ ys) below (omega arith, h) in
    let itself : (x == x) ≡ true = eq-eqb x x refl in
    let some : count_by (λ z. z == x) (x ∷ xs) ≡ 1 + count_by (λ z. z == x) xs = sum_by-cons (λ z. cond (z == x) 1 0) x xs ∙ ap (λ (b : Bool). cond b 1 0 + count_by (λ z. z == x) xs) itself in
    let same = sums (λ z. cond (z == x) 1 0) in
    absurd (omega (arith, none, some, same))

-- two lists that ascend and have the same numbers are the same
same_numbers : (xs ys : List ℕ) (m k : ℕ) → IsFrom m xs → IsFrom k ys → ((f : ℕ → ℕ) → sum_by f xs ≡ sum_by f ys) → xs ≡ ys
same_numbers [] [] m k h g sums = refl
same_numbers [] (y ∷ ys) m k h g sums =
    let one = sum_by-cons (λ z. 1) y ys in
    let both = sums (λ z. 1) in
    absurd (omega (arith, one, both))
same_numbers (x ∷ xs) [] m k h g sums =
    let one = sum_by-cons (λ z. 1) x xs in
    let both = sums (λ z. 1) in
    absurd (omega (arith, one, both))
same_numbers (x ∷ xs) (y ∷ ys) m k h g sums =
    let low = not_below x y xs ys g.1 sums in
    let high = not_below y x ys xs h.1 (λ f. sym (sums f)) in
    let first : x ≡ y = grind (arith, low, high) in
    ap₂ (λ (a : ℕ) (rest : List ℕ). a ∷ rest) first (same_numbers xs ys x y h.1 g.1
    (λ f.
    let same = ap f first in
    let left = sum_by-cons f x xs in
    let right = sum_by-cons f y ys in
    let both = sums f in
    omega arith))

-- a list that ascends strictly ascends
increasing-from : (x : ℕ) (xs : List ℕ) → IsStrictlyIncreasing (x ∷ xs) → IsFrom x xs
increasing-from x [] h = tt
increasing-from x (y ∷ ys) h =
    let first : x < y = h 0 (omega arith) in (
      omega arith,
      increasing-from y ys
          (λ k below.
          let next : suc k + 1 ≡ suc (k + 1) = omega arith in
          subst (λ (i : ℕ). slice_index (y ∷ ys) k < slice_index (x ∷ y ∷ ys) i) next (h (suc k) (omega arith))),
    )

from_increasing : (xs : List ℕ) → IsStrictlyIncreasing xs → IsFrom 0 xs
from_increasing [] h = tt
from_increasing (x ∷ xs) h = (omega arith, increasing-from x xs h)

-- a list of the same numbers that ascends strictly is the one in ascending order
pub ascending_is : (xs ys : List ℕ) → IsPermutation xs ys → IsStrictlyIncreasing ys → ys ≡ ascending xs
ascending_is xs ys moved h =
    same_numbers ys (ascending xs) 0 0 (from_increasing ys h) (ascending-from xs) (λ f. sum_by-IsPermutation f xs ys moved ∙ sym (sum-ascending f xs))

inserted-moved : (x : ℕ) (xs : List ℕ) → IsPermutation (x ∷ xs) (inserted x xs)
inserted-moved x [] = IsPermutation-refl (x ∷ [])
inserted-moved x (y ∷ ys) = at (nat_le x y) (inserted-moved x ys) where
  at : (b : Bool) → IsPermutation (x ∷ ys) (inserted x ys) → IsPermutation (x ∷ y ∷ ys) (cond b (x ∷ y ∷ ys) (y ∷ inserted x ys))
  at true rest = IsPermutation-refl (x ∷ y ∷ ys)
  at false rest = IsPermutation-trans (x ∷ y ∷ ys) (y ∷ x ∷ ys) (y ∷ inserted x ys) (IsPermutation-middle (x ∷ []) y ys) (IsPermutation-cons y (x ∷ ys) (inserted x ys) rest)

-- they are the numbers of the list
pub ascending-moved : (xs : List ℕ) → IsPermutation xs (ascending xs)
unfolding ascending
ascending-moved [] = IsPermutation-refl []
ascending-moved (x ∷ xs) = IsPermutation-trans (x ∷ xs) (x ∷ ascending xs) (inserted x (ascending xs)) (IsPermutation-cons x xs (ascending xs) (ascending-moved xs)) (inserted-moved x (ascending xs))

next_above : (x : ℕ) (xs : List ℕ) → IsFrom x xs → (k d : ℕ) → k + 1 < length (x ∷ xs) → slice_index_or (x ∷ xs) k d ≤ slice_index_or (x ∷ xs) (k + 1) d
next_above x [] h k d below = absurd (omega arith)
next_above x (y ∷ ys) h zero d below = h.0
next_above x (y ∷ ys) h (suc k) d below =
    let next : suc (k + 1) ≡ suc k + 1 = omega arith in
    subst (λ (i : ℕ). slice_index_or (y ∷ ys) k d ≤ slice_index_or (x ∷ y ∷ ys) i d) next (next_above y ys h.1 k d (omega arith))

not_less : (a b : ℕ) → b ≤ a → is_lt (nat_cmp a b) ≡ false
not_less a b above = ap (λ (less : Bool). is_lt (cond less Less (cond (a == b) Equal Greater))) (le-ltb a b above) ∙ at (a == b) where
  at : (same : Bool) → is_lt (cond same Equal Greater) ≡ false
  at true = refl
  at false = refl

from-sorted : (xs : List ℕ) → IsFrom 0 xs → IsSorted nat_cmp xs
from-sorted [] h = λ k d low below. absurd (omega arith)
from-sorted (x ∷ xs) h = λ k d low below. not_less (slice_index_or (x ∷ xs) (k + 1) d) (slice_index_or (x ∷ xs) k d) (next_above x xs h.1 k d below)

-- and they are sorted
pub ascending-sorted : (xs : List ℕ) → IsSorted nat_cmp (ascending xs)
ascending-sorted xs = from-sorted (ascending xs) (ascending-from xs)
