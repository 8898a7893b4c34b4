-- The elements of a list that is written at a place, or grows at its end.
use Rattle.std.proofs.Common.{◌≡◌, ℕ, zero, suc, ◌<◌, List, [], ◌∷◌, ◌++◌, length, Some, refl, ap, sym, ◌∙◌, arith, inl, inr, ◌⊎◌}
use Rattle.std.specs.Prelude.{◌≢◌, slice_get, slice_set, Contains}
use Rattle.std.proofs.lemmas.Option.{none-some, same_Some, slice_get_within}
use Rattle.ct_rule_parts.proofs.Places.{IsAtSeam, slice_get-append_left, slice_get-append_cases}

-- the element at the place that is written
pub slice_get-set_same : {X : Type 0} (xs : List X) (i : ℕ) (v : X) → i < length xs
    → slice_get (slice_set xs i v) i ≡ Some v
slice_get-set_same [] i v inside = absurd (omega arith)
slice_get-set_same (x ∷ xs) zero v inside = refl
slice_get-set_same (x ∷ xs) (suc i) v inside = slice_get-set_same xs i v (omega arith)

-- and at another
pub slice_get-set_other : {X : Type 0} (xs : List X) (i j : ℕ) (v : X) → j ≢ i
    → slice_get (slice_set xs i v) j ≡ slice_get xs j
slice_get-set_other [] i j v other = refl
slice_get-set_other (x ∷ xs) zero zero v other = absurd (other refl)
slice_get-set_other (x ∷ xs) zero (suc j) v other = refl
slice_get-set_other (x ∷ xs) (suc i) zero v other = refl
slice_get-set_other (x ∷ xs) (suc i) (suc j) v other = slice_get-set_other xs i j v (λ e. other (ap suc e))

-- an element of a list is one of the list with more at its end
pub slice_get-append_some : {X : Type 0} (xs ys : List X) (i : ℕ) (x : X) → slice_get xs i ≡ Some x
    → slice_get (xs ++ ys) i ≡ Some x
slice_get-append_some xs ys i x found = slice_get-append_left xs ys i (slice_get_within xs i x found) ∙ found

-- an element of a list with one more is one of the list, or the one more
abbrev pub IsOldOrNew : {X : Type 0} → List X → X → ℕ → X → Type 0
IsOldOrNew xs x i y = ((i < length xs) × (slice_get xs i ≡ Some y)) ⊎ ((i ≡ length xs) × (x ≡ y))

pub slice_get_push_cases : {X : Type 0} (xs : List X) (x : X) (i : ℕ) (y : X) → slice_get (xs ++ x ∷ []) i ≡ Some y
    → IsOldOrNew xs x i y
slice_get_push_cases {X} xs x i y found = go (slice_get-append_cases xs (x ∷ []) i y found)
  where
    go : IsAtSeam xs (x ∷ []) i y → IsOldOrNew xs x i y
    go (inl old) = inl old
    go (inr (zero, at, here)) = inr (omega arith, same_Some x y here)
    go (inr (suc j, at, past)) = absurd (none-some y past)

-- an element of a list that isn't its first is one of the rest
pub Contains-rest : {X : Type 0} (x : X) (xs : List X) (y : X) → Contains (x ∷ xs) y → y ≢ x → Contains xs y
Contains-rest x xs y (zero, inside, found) other = absurd (other (sym found))
Contains-rest x xs y (suc n, inside, found) other = (n, omega arith, found)
