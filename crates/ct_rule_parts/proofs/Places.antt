-- Items of lists at places: of a front, and of two lists one after the other.
use Rattle.std.proofs.Common.{◌≡◌, ℕ, zero, suc, ◌+◌, ◌<◌, List, [], ◌∷◌, ◌++◌, length, take, slice_get, Some, refl, ap, ◌∙◌, inl, inr, ◌⊎◌, arith}

-- a place of the first items is one of all, before their end
pub slice_get-take : {X : Type 0} (n : ℕ) (xs : List X) (i : ℕ) (x : X) → slice_get (take n xs) i ≡ Some x
    → (i < n) × (slice_get xs i ≡ Some x)
slice_get-take zero xs i x h = absurd cc
slice_get-take (suc n) [] i x h = absurd cc
slice_get-take (suc n) (y ∷ ys) zero x h = (omega arith, h)
slice_get-take (suc n) (y ∷ ys) (suc i) x h = let rest = slice_get-take n ys i x h in (omega arith, rest.1)

-- the items of the first list stand at their places
pub slice_get-append_left : {X : Type 0} (xs ys : List X) (i : ℕ) → i < length xs
    → slice_get (xs ++ ys) i ≡ slice_get xs i
slice_get-append_left [] ys i h = absurd (omega arith)
slice_get-append_left (x ∷ xs) ys zero h = refl
slice_get-append_left (x ∷ xs) ys (suc i) h = slice_get-append_left xs ys i (omega arith)

-- those of the second list stand past its length
pub slice_get-append_right : {X : Type 0} (xs ys : List X) (i : ℕ)
    → slice_get (xs ++ ys) (length xs + i) ≡ slice_get ys i
slice_get-append_right [] ys i = let same : 0 + i ≡ i = omega arith in ap (slice_get ys) same
slice_get-append_right (x ∷ xs) ys i =
    let same : suc (length xs) + i ≡ suc (length xs + i) = omega arith in
    ap (slice_get (x ∷ (xs ++ ys))) same ∙ slice_get-append_right xs ys i

-- the item at a place of two lists, one after the other: one of the first, or one of the second past it
abbrev pub IsAtSeam : {X : Type 0} → List X → List X → ℕ → X → Type 0
IsAtSeam xs ys i x =
    ((i < length xs) × (slice_get xs i ≡ Some x)) ⊎ ((j : ℕ) × (i ≡ length xs + j) × (slice_get ys j ≡ Some x))

pub slice_get-append_cases : {X : Type 0} (xs ys : List X) (i : ℕ) (x : X) → slice_get (xs ++ ys) i ≡ Some x
    → IsAtSeam xs ys i x
slice_get-append_cases [] ys i x h = inr (i, omega arith, h)
slice_get-append_cases (y ∷ xs) ys zero x h = inl (omega arith, h)
slice_get-append_cases (y ∷ xs) ys (suc i) x h = go (slice_get-append_cases xs ys i x h)
  where
    go : IsAtSeam xs ys i x → IsAtSeam (y ∷ xs) ys (suc i) x
    go (inl here) = inl (omega arith, here.1)
    go (inr past) = let at = past.1 in inr (past.0, omega arith, past.2)

-- the last item stands at the length of those before it
pub slice_get_last : {X : Type 0} (xs : List X) (x : X) → slice_get (xs ++ x ∷ []) (length xs) ≡ Some x
slice_get_last xs x =
    let same : length xs ≡ length xs + 0 = omega arith in
    ap (slice_get (xs ++ x ∷ [])) same ∙ slice_get-append_right xs (x ∷ []) 0
