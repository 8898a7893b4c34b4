-- Sums over all ordered pairs of elements of a list, and the squares of sums.
use Rattle.std.proofs.Common.{◌≡◌, List, map, sym, ◌∙◌}
use Rattle.std.specs.Prelude.{ℤ, ◌*ℤ◌}
use Rattle.std.specs.List.{All}
use Rattle.std.proofs.lemmas.List.Elements.{recursion_from_All}
use Rattle.ct_words.specs.Counting.Sums.{total}
use Rattle.ct_words.specs.Counting.PairTotals.{pair_total, square}
use Rattle.ct_words.proofs.Counting.Totals.{total-congruence, total-congruence_within, total-scale, total-map, total-swap}
use Rattle.ct_words.proofs.Counting.Products.{int_mul_comm}

-- the pairs of a list of images
pub pair_total-map : {X Y : Type 0} (f : Y → Y → ℤ) (g : X → Y) (xs : List X) → pair_total f (map g xs) ≡ pair_total (λ x y. f (g x) (g y)) xs
pair_total-map f g xs =
    total-map (λ y. total (f y) (map g xs)) g xs
    ∙ total-congruence (λ x. total (f (g x)) (map g xs)) (λ x. total (λ z. f (g x) (g z)) xs) xs (λ x. total-map (f (g x)) g xs)

-- terms that are equal at elements of the list
pub pair_total-congruence_within : {X : Type 0} (P : X → Type 0) (f g : X → X → ℤ) (xs : List X) → ((x y : X) → P x → P y → f x y ≡ g x y) → All P xs → pair_total f xs ≡ pair_total g xs
pair_total-congruence_within {X} P f g xs same all =
    let row : (x : X) → P x → total (f x) xs ≡ total (g x) xs =
    λ x p. total-congruence_within (f x) (g x) xs (recursion_from_All (λ y. f x y ≡ g x y) xs (λ k d l. same x _ p (all k d l))) in
    total-congruence_within (λ x. total (f x) xs) (λ x. total (g x) xs) xs
    (recursion_from_All (λ x. total (f x) xs ≡ total (g x) xs) xs (λ k d l. row _ (all k d l)))

-- a constant factor goes before the sum
pub pair_total-scale : {X : Type 0} (k : ℤ) (f : X → X → ℤ) (xs : List X) → pair_total (λ x y. k *ℤ f x y) xs ≡ k *ℤ pair_total f xs
pair_total-scale k f xs =
    total-congruence (λ x. total (λ y. k *ℤ f x y) xs) (λ x. k *ℤ total (f x) xs) xs (λ x. total-scale k (f x) xs)
    ∙ total-scale k (λ x. total (f x) xs) xs

-- the square of a sum is the sum of the products of all pairs of terms
pub square-total : {X : Type 0} (c : X → ℤ) (xs : List X) → square (total c xs) ≡ pair_total (λ x y. c x *ℤ c y) xs
square-total c xs =
    sym (total-scale (total c xs) c xs)
    ∙ total-congruence (λ x. total c xs *ℤ c x) (λ x. total (λ y. c x *ℤ c y) xs) xs (λ x. int_mul_comm (total c xs) (c x) ∙ sym (total-scale (c x) c xs))

-- the squares of the sums over xs, added over us, by the pairs of xs
pub total-squares : {X Y : Type 0} (c : Y → X → ℤ) (us : List Y) (xs : List X) → total (λ u. square (total (c u) xs)) us ≡ pair_total (λ x y. total (λ u. c u x *ℤ c u y) us) xs
total-squares c us xs =
    total-congruence (λ u. square (total (c u) xs)) (λ u. pair_total (λ x y. c u x *ℤ c u y) xs) us (λ u. square-total (c u) xs)
    ∙ total-swap (λ u x. total (λ y. c u x *ℤ c u y) xs) us xs
    ∙ total-congruence (λ x. total (λ u. total (λ y. c u x *ℤ c u y) xs) us) (λ x. total (λ y. total (λ u. c u x *ℤ c u y) us) xs) xs
    (λ x. total-swap (λ u y. c u x *ℤ c u y) us xs)
