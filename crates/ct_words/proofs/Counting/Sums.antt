-- Sums of natural numbers: over the elements of a list, and over the numbers below a bound.
use Rattle.std.proofs.Common.{◌≡◌, ℕ, zero, suc, ◌+◌, ◌*◌, ◌<◌, ◌≤◌, List, [], ◌∷◌, map, length, refl, sym, ap, ◌∙◌, arith, add-one, add-zero}
use Rattle.std.specs.List.{sum_by, AllByRecursion}
use Rattle.std.proofs.lemmas.List.Sums.{sum_by-cons}
use Rattle.ct_words.specs.Counting.Sums.{sum_below}

-- equal terms have equal sums
pub sum_by-congruence : {X : Type 0} (f g : X → ℕ) (xs : List X) → ((x : X) → f x ≡ g x) → sum_by f xs ≡ sum_by g xs
sum_by-congruence {X} f g xs h = ap (λ (t : X → ℕ). sum_by t xs) (λ i x. h x i)

-- terms that are equal at each element of the list have equal sums
pub sum_by-congruence_within : {X : Type 0} (f g : X → ℕ) (xs : List X) → AllByRecursion (λ x. f x ≡ g x) xs → sum_by f xs ≡ sum_by g xs
sum_by-congruence_within f g [] h = refl
sum_by-congruence_within f g (x ∷ xs) h =
    let ih = sum_by-congruence_within f g xs h.1 in
    let first = h.0 in
    omega (arith, sum_by-cons f x xs, sum_by-cons g x xs)

-- terms that are at most others at each element of the list have at most their sum
pub sum_by-le_within : {X : Type 0} (f g : X → ℕ) (xs : List X) → AllByRecursion (λ x. f x ≤ g x) xs → sum_by f xs ≤ sum_by g xs
sum_by-le_within f g [] h = omega arith
sum_by-le_within f g (x ∷ xs) h =
    let ih = sum_by-le_within f g xs h.1 in
    let first = h.0 in
    omega (arith, sum_by-cons f x xs, sum_by-cons g x xs)

-- a sum of zeros is zero
pub sum_by-zero : {X : Type 0} (xs : List X) → sum_by (λ _. 0) xs ≡ 0
sum_by-zero [] = refl
sum_by-zero {X} (x ∷ xs) =
    let ih = sum_by-zero xs in
    let zeros : X → ℕ = λ _. 0 in
    omega (arith, sum_by-cons zeros x xs)

-- the sum of a sum of two terms is the sum of the two sums
pub sum_by-add : {X : Type 0} (f g : X → ℕ) (xs : List X) → sum_by (λ x. f x + g x) xs ≡ sum_by f xs + sum_by g xs
sum_by-add f g [] = refl
sum_by-add {X} f g (x ∷ xs) =
    let ih = sum_by-add f g xs in
    let both : X → ℕ = λ y. f y + g y in
    omega (arith, sum_by-cons both x xs, sum_by-cons f x xs, sum_by-cons g x xs)

-- a constant factor goes before the sum
pub sum_by-scale : {X : Type 0} (k : ℕ) (f : X → ℕ) (xs : List X) → sum_by (λ x. k * f x) xs ≡ k * sum_by f xs
sum_by-scale k f [] = omega arith
sum_by-scale {X} k f (x ∷ xs) =
    let ih = sum_by-scale k f xs in
    let scaled : X → ℕ = λ y. k * f y in
    let e = ap (λ s. k * s) (sum_by-cons f x xs) in
    omega (arith, sum_by-cons scaled x xs)

-- a sum of one number over and over is the length of the list times that number
pub sum_by-constant : {X : Type 0} (k : ℕ) (xs : List X) → sum_by (λ _. k) xs ≡ length xs * k
sum_by-constant k [] = omega arith
sum_by-constant {X} k (x ∷ xs) =
    let ih = sum_by-constant k xs in
    let same : X → ℕ = λ _. k in
    omega (arith, sum_by-cons same x xs)

-- a sum over a list of images
pub sum_by-map : {X Y : Type 0} (f : Y → ℕ) (g : X → Y) (xs : List X) → sum_by f (map g xs) ≡ sum_by (λ x. f (g x)) xs
sum_by-map f g [] = refl
sum_by-map {X} f g (x ∷ xs) =
    let ih = sum_by-map f g xs in
    let through : X → ℕ = λ y. f (g y) in
    omega (arith, sum_by-cons through x xs, sum_by-cons f (g x) (map g xs))

-- two sums can be taken in either order
pub sum_by-swap : {X Y : Type 0} (f : X → Y → ℕ) (xs : List X) (ys : List Y) → sum_by (λ x. sum_by (f x) ys) xs ≡ sum_by (λ y. sum_by (λ x. f x y) xs) ys
sum_by-swap f [] ys = sym (sum_by-zero ys)
sum_by-swap {X} {Y} f (x ∷ xs) ys =
    let ih = sum_by-swap f xs ys in
    let row : X → ℕ = λ z. sum_by (f z) ys in
    let column : Y → ℕ = λ y. sum_by (λ z. f z y) xs in
    let longer : Y → ℕ = λ y. sum_by (λ z. f z y) (x ∷ xs) in
    let more : Y → ℕ = λ y. f x y + column y in
    let step : sum_by longer ys ≡ sum_by more ys = sum_by-congruence longer more ys (λ y. sum_by-cons (λ z. f z y) x xs) in
    let split = sum_by-add (f x) column ys in
    let first = sum_by-cons row x xs in
    omega arith

-- one more term below the bound
pub sum_below-suc : (f : ℕ → ℕ) (k : ℕ) → sum_below f (k + 1) ≡ sum_below f k + f k
sum_below-suc f k = ap (sum_below f) (add-one k)

-- equal terms have equal sums
pub sum_below-congruence : (f g : ℕ → ℕ) (k : ℕ) → ((j : ℕ) → j < k → f j ≡ g j) → sum_below f k ≡ sum_below g k
sum_below-congruence f g zero h = refl
sum_below-congruence f g (suc k) h =
    let ih = sum_below-congruence f g k (λ j l. h j (omega arith)) in
    let last = h k (omega arith) in
    omega arith

-- the first term apart from the others
pub sum_below-first : (f : ℕ → ℕ) (k : ℕ) → sum_below f (suc k) ≡ f 0 + sum_below (λ j. f (suc j)) k
sum_below-first f zero = omega arith
sum_below-first f (suc k) = let ih = sum_below-first f k in omega arith

-- terms from the bound on that are zero add nothing
pub sum_below-past : (f : ℕ → ℕ) (n k : ℕ) → ((j : ℕ) → n ≤ j → f j ≡ 0) → sum_below f (n + k) ≡ sum_below f n
sum_below-past f n zero h = ap (sum_below f) (omega arith)
sum_below-past f n (suc k) h =
    let ih = sum_below-past f n k h in
    let e : n + suc k ≡ suc (n + k) = omega arith in
    let last = h (n + k) (omega arith) in
    ap (sum_below f) e ∙ omega arith

-- more terms have at least the sum of the first ones
pub sum_below-le : (f : ℕ → ℕ) (n k : ℕ) → sum_below f n ≤ sum_below f (n + k)
sum_below-le f n zero = let e = ap (sum_below f) (add-zero n) in omega arith
sum_below-le f n (suc k) =
    let ih = sum_below-le f n k in
    let e : n + suc k ≡ suc (n + k) = omega arith in
    let same = ap (sum_below f) e in
    omega arith

-- terms that are at most u
pub sum_below-bound : (f : ℕ → ℕ) (u k : ℕ) → ((j : ℕ) → j < k → f j ≤ u) → sum_below f k ≤ k * u
sum_below-bound f u zero h = omega arith
sum_below-bound f u (suc k) h =
    let ih = sum_below-bound f u k (λ j l. h j (omega arith)) in
    let last = h k (omega arith) in
    omega arith
