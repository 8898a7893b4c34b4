-- Totals over the elements that pass a test, over lists that are joined end to end, and of negated terms.
use Rattle.std.proofs.Common.{◌≡◌, List, [], ◌∷◌, refl, ap, ◌∙◌, arith}
use Rattle.std.specs.Prelude.{Bool, true, false, cond, filter, ℤ, pos, neg_ℤ, ◌+ℤ◌}
use Rattle.std.specs.List.{flat_map}
use Rattle.std.proofs.lemmas.Int.{ints}
use Rattle.ct_words.specs.Counting.Sums.{total}
use Rattle.ct_words.proofs.Counting.Totals.{total-append}

-- a total over the elements that pass a test
pub total-filter : {X : Type 0} (f : X → ℤ) (p : X → Bool) (xs : List X) → total f (filter p xs) ≡ total (λ x. cond (p x) (f x) (pos 0)) xs
total-filter f p [] = refl
total-filter {X} f p (x ∷ xs) = go (p x) (total-filter f p xs)
  where
    go : (b : Bool) → total f (filter p xs) ≡ total (λ x. cond (p x) (f x) (pos 0)) xs
        → total f (cond b (x ∷ filter p xs) (filter p xs)) ≡ cond b (f x) (pos 0) +ℤ total (λ x. cond (p x) (f x) (pos 0)) xs
    go true ih = ap (λ z. f x +ℤ z) ih
    go false ih = omega (arith, ints)

-- a total over lists joined end to end
pub total-flat_map : {X Y : Type 0} (f : Y → ℤ) (g : X → List Y) (xs : List X) → total f (flat_map g xs) ≡ total (λ x. total f (g x)) xs
total-flat_map f g [] = refl
total-flat_map f g (x ∷ xs) = total-append f (g x) (flat_map g xs) ∙ ap (λ z. total f (g x) +ℤ z) (total-flat_map f g xs)

-- a total of negated terms
pub total-neg : {X : Type 0} (f : X → ℤ) (xs : List X) → total (λ x. neg_ℤ (f x)) xs ≡ neg_ℤ (total f xs)
total-neg f [] = refl
total-neg f (x ∷ xs) = let ih = total-neg f xs in omega (arith, ints)
