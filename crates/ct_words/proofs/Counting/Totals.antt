-- Sums of whole numbers over lists, and the products under them.
use Rattle.std.proofs.Common.{◌≡◌, ◌*◌, List, [], ◌∷◌, ◌++◌, map, refl, sym, ap, ◌∙◌, arith}
use Rattle.std.specs.Prelude.{ℤ, pos, negsuc, ◌+ℤ◌, ◌*ℤ◌, ◌≤ℤ◌}
use Rattle.std.specs.List.{AllByRecursion}
use Rattle.std.proofs.lemmas.Int.{ints}
use borrow.Author.Differences.{up, down, sum_is_lem}
use Rattle.ct_words.specs.Counting.Sums.{total}

-- multiplication distributes over a sum
pub int_dist : (a b c : ℤ) → a *ℤ (b +ℤ c) ≡ (a *ℤ b) +ℤ (a *ℤ c)
int_dist a b c =
    let s = sum_is_lem b c in
    let p = ap (λ n. up a * n) s in
    let q = ap (λ n. down a * n) s in
    omega (arith, ints)

-- a square is not negative
pub square_nonneg : (a : ℤ) → pos 0 ≤ℤ (a *ℤ a)
square_nonneg (pos n) = omega (arith, ints)
square_nonneg (negsuc n) = omega (arith, ints)

-- equal terms have equal totals
pub total-congruence : {X : Type 0} (f g : X → ℤ) (xs : List X) → ((x : X) → f x ≡ g x) → total f xs ≡ total g xs
total-congruence {X} f g xs h = ap (λ (t : X → ℤ). total t xs) (λ i x. h x i)

-- terms that are equal at each element of the list have equal totals
pub total-congruence_within : {X : Type 0} (f g : X → ℤ) (xs : List X) → AllByRecursion (λ x. f x ≡ g x) xs → total f xs ≡ total g xs
total-congruence_within f g [] h = refl
total-congruence_within f g (x ∷ xs) h =
    let ih = total-congruence_within f g xs h.1 in
    let first = h.0 in
    omega (arith, ints)

-- a total of zeros is zero
pub total-zero : {X : Type 0} (xs : List X) → total (λ _. pos 0) xs ≡ pos 0
total-zero [] = refl
total-zero (x ∷ xs) = let ih = total-zero xs in omega (arith, ints)

-- the total of a sum of two terms is the sum of the two totals
pub total-add : {X : Type 0} (f g : X → ℤ) (xs : List X) → total (λ x. f x +ℤ g x) xs ≡ total f xs +ℤ total g xs
total-add f g [] = refl
total-add f g (x ∷ xs) = let ih = total-add f g xs in omega (arith, ints)

-- a constant factor goes before the total
pub total-scale : {X : Type 0} (k : ℤ) (f : X → ℤ) (xs : List X) → total (λ x. k *ℤ f x) xs ≡ k *ℤ total f xs
total-scale k f [] = omega (arith, ints)
total-scale k f (x ∷ xs) =
    let ih = total-scale k f xs in
    let step = int_dist k (f x) (total f xs) in
    omega (arith, ints)

-- the total over two lists, one after the other
pub total-append : {X : Type 0} (f : X → ℤ) (xs ys : List X) → total f (xs ++ ys) ≡ total f xs +ℤ total f ys
total-append f [] ys = omega (arith, ints)
total-append f (x ∷ xs) ys = let ih = total-append f xs ys in omega (arith, ints)

-- a total over a list of images
pub total-map : {X Y : Type 0} (f : Y → ℤ) (g : X → Y) (xs : List X) → total f (map g xs) ≡ total (λ x. f (g x)) xs
total-map f g [] = refl
total-map f g (x ∷ xs) = ap (λ z. f (g x) +ℤ z) (total-map f g xs)

-- two totals can be taken in either order
pub total-swap : {X Y : Type 0} (f : X → Y → ℤ) (xs : List X) (ys : List Y) → total (λ x. total (f x) ys) xs ≡ total (λ y. total (λ x. f x y) xs) ys
total-swap f [] ys = sym (total-zero ys)
total-swap f (x ∷ xs) ys =
    ap (λ z. total (f x) ys +ℤ z) (total-swap f xs ys) ∙ sym (total-add (f x) (λ y. total (λ x'. f x' y) xs) ys)

-- terms that are not negative have a total that is not negative
pub total-nonneg : {X : Type 0} (f : X → ℤ) (xs : List X) → ((x : X) → pos 0 ≤ℤ f x) → pos 0 ≤ℤ total f xs
total-nonneg f [] h = omega (arith, ints)
total-nonneg f (x ∷ xs) h =
    let ih = total-nonneg f xs h in
    let first = h x in
    omega (arith, ints)

-- a total of squares is not negative
pub total_of_squares : {X : Type 0} (f : X → ℤ) (xs : List X) → pos 0 ≤ℤ total (λ x. f x *ℤ f x) xs
total_of_squares f xs = total-nonneg (λ x. f x *ℤ f x) xs (λ x. square_nonneg (f x))
