-- Lists in which each element stands in a relation to each later one.
use Rattle.std.proofs.Common.{◌≡◌, ℕ, suc, ◌<◌, List, [], ◌∷◌, ◌++◌, map, take, length, get_or, length-take, subst, ap, ◌∙◌, inl, inr, arith}
use Rattle.std.specs.Prelude.{◌⊎◌}
use Rattle.std.proofs.lemmas.Bool.{cases_lt}
use Rattle.std.proofs.lemmas.List.{get_or-take, get_or_default}
use Rattle.std.specs.List.{All, AllPairs}
use Rattle.std.proofs.lemmas.List.Elements.{All-append, All-map, All-head, All-tail}
use Rattle.std.proofs.lemmas.List.Kept.{AllPairs-cons}

-- the first element and each later one
pub AllPairs-head : {X : Type 0} (R : X → X → Type 0) (x : X) (xs : List X) → AllPairs R (x ∷ xs) → All (R x) xs
AllPairs-head R x xs h = λ k d l. h 0 (suc k) d (omega arith) (omega arith)

-- the elements after the first
pub AllPairs-tail : {X : Type 0} (R : X → X → Type 0) (x : X) (xs : List X) → AllPairs R (x ∷ xs) → AllPairs R xs
AllPairs-tail R x xs h = λ i j d l m. h (suc i) (suc j) d (omega arith) (omega arith)

-- two lists one after the other, where each of the first is in the relation to each of the second
pub AllPairs-append : {X : Type 0} (R : X → X → Type 0) (xs ys : List X) → AllPairs R xs → AllPairs R ys → All (λ x. All (R x) ys) xs → AllPairs R (xs ++ ys)
AllPairs-append R [] ys hx hy across = hy
AllPairs-append R (x ∷ xs) ys hx hy across =
    AllPairs-cons R x (xs ++ ys)
    (All-append (R x) xs ys (AllPairs-head R x xs hx) (All-head (λ z. All (R z) ys) x xs across))
    (AllPairs-append R xs ys (AllPairs-tail R x xs hx) hy (All-tail (λ z. All (R z) ys) x xs across))

-- the images of a list whose elements are in the relation of the images
pub AllPairs-map : {X Y : Type 0} (R : Y → Y → Type 0) (f : X → Y) (xs : List X) → AllPairs (λ x y. R (f x) (f y)) xs → AllPairs R (map f xs)
AllPairs-map R f [] h = λ i j d l m. absurd (omega arith)
AllPairs-map R f (x ∷ xs) h =
    AllPairs-cons R (f x) (map f xs)
    (All-map (R (f x)) f xs (AllPairs-head (λ a b. R (f a) (f b)) x xs h))
    (AllPairs-map R f xs (AllPairs-tail (λ a b. R (f a) (f b)) x xs h))

-- a relation that implies another
pub AllPairs-weaker : {X : Type 0} (R S : X → X → Type 0) (xs : List X) → ((x y : X) → R x y → S x y) → AllPairs R xs → AllPairs S xs
AllPairs-weaker R S xs f h = λ i j d l m. f _ _ (h i j d l m)

-- a relation that implies another between elements of which something holds
pub AllPairs-within : {X : Type 0} (P : X → Type 0) (R S : X → X → Type 0) (xs : List X) → ((x y : X) → P x → P y → R x y → S x y) → All P xs → AllPairs R xs → AllPairs S xs
AllPairs-within P R S xs f each h = λ i j d l m. f _ _ (each i d (omega arith)) (each j d m) (h i j d l m)

-- the first elements of a list
pub AllPairs-take : {X : Type 0} (R : X → X → Type 0) (k : ℕ) (xs : List X) → AllPairs R xs → AllPairs R (take k xs)
AllPairs-take R k xs h = λ i j d l m.
    let long = length-take k xs in
    let a = get_or-take k xs i d (omega arith) in
    let b = get_or-take k xs j d (omega arith) in
    rw (a, b) (h i j d l (omega arith))

-- an element of such a list stands in the relation to each other one, where the relation goes both ways
pub AllPairs-others : {X : Type 0} (R : X → X → Type 0) (xs : List X) → ((x y : X) → R x y → R y x) → AllPairs R xs → (i : ℕ) (d : X) → i < length xs → All (λ y. (get_or xs i d ≡ y) ⊎ R (get_or xs i d) y) xs
AllPairs-others R xs turns h i d within = λ j e l.
    let same = get_or_default xs j d e l in
    elim (cases_lt i j) [
      | inl before ↦ inr (subst (R (get_or xs i d)) same (h i j d before l))
      | inr after ↦ elim (cases_lt j i) [
        | inl less ↦ inr (subst (R (get_or xs i d)) same (turns (get_or xs j d) (get_or xs i d) (h j i d less within)))
        | inr more ↦ let place : i ≡ j = omega arith in inl (ap (λ k. get_or xs k d) place ∙ same)
      ]
    ]
