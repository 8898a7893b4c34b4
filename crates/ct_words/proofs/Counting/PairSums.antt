-- Sums over all ordered pairs of elements of a list, an element with itself too.
use Rattle.std.proofs.Common.{◌≡◌, ℕ, ◌+◌, ◌*◌, ◌≤◌, List, [], ◌∷◌, map, length, ◌∙◌, arith}
use Rattle.std.specs.List.{All, AllPairs, sum_by}
use Rattle.std.proofs.lemmas.List.Elements.{All-head, All-tail, recursion_from_All}
use Rattle.std.proofs.lemmas.List.Sums.{sum_by-cons, sum_by-le}
use Rattle.ct_words.proofs.Counting.Sums.{sum_by-congruence, sum_by-congruence_within, sum_by-le_within, sum_by-add, sum_by-constant, sum_by-map}
use Rattle.ct_words.proofs.Counting.Pairs.{AllPairs-head, AllPairs-tail}

-- the sum of f x y over all x and all y of the list
abbrev pub pair_sum : {X : Type 0} → (X → X → ℕ) → List X → ℕ
pair_sum f xs = sum_by (λ x. sum_by (f x) xs) xs

-- the pairs of a longer list: the first element with itself, with each other one, each other one with it, and the rest
pub pair_sum-cons : {X : Type 0} (f : X → X → ℕ) (x : X) (xs : List X) → pair_sum f (x ∷ xs) ≡ f x x + (sum_by (f x) xs + sum_by (λ y. f y x) xs) + pair_sum f xs
pair_sum-cons {X} f x xs =
    let row : X → ℕ = λ y. sum_by (f y) (x ∷ xs) in
    let with_first : X → ℕ = λ y. f y x in
    let with_rest : X → ℕ = λ y. sum_by (f y) xs in
    let both : X → ℕ = λ y. with_first y + with_rest y in
    let rows = sum_by-cons row x xs in
    let first : row x ≡ f x x + sum_by (f x) xs = sum_by-cons (f x) x xs in
    let others : sum_by row xs ≡ sum_by both xs = sum_by-congruence row both xs (λ y. sum_by-cons (f y) x xs) in
    let split = sum_by-add with_first with_rest xs in
    omega arith

-- the pairs of a list of images
pub pair_sum-map : {X Y : Type 0} (f : Y → Y → ℕ) (g : X → Y) (xs : List X) → pair_sum f (map g xs) ≡ pair_sum (λ x y. f (g x) (g y)) xs
pair_sum-map {X} {Y} f g xs =
    sum_by-map (λ y. sum_by (f y) (map g xs)) g xs
    ∙ sum_by-congruence (λ x. sum_by (f (g x)) (map g xs)) (λ x. sum_by (λ z. f (g x) (g z)) xs) xs (λ x. sum_by-map (f (g x)) g xs)

-- the sum of two terms over all pairs
pub pair_sum-add : {X : Type 0} (f g : X → X → ℕ) (xs : List X) → pair_sum (λ x y. f x y + g x y) xs ≡ pair_sum f xs + pair_sum g xs
pair_sum-add {X} f g xs =
    sum_by-congruence (λ x. sum_by (λ y. f x y + g x y) xs) (λ x. sum_by (f x) xs + sum_by (g x) xs) xs (λ x. sum_by-add (f x) (g x) xs)
    ∙ sum_by-add (λ x. sum_by (f x) xs) (λ x. sum_by (g x) xs) xs

-- terms that are equal at elements of the list
pub pair_sum-congruence_within : {X : Type 0} (P : X → Type 0) (f g : X → X → ℕ) (xs : List X) → ((x y : X) → P x → P y → f x y ≡ g x y) → All P xs → pair_sum f xs ≡ pair_sum g xs
pair_sum-congruence_within {X} P f g xs same all =
    let row : (x : X) → P x → sum_by (f x) xs ≡ sum_by (g x) xs =
    λ x p. sum_by-congruence_within (f x) (g x) xs (recursion_from_All (λ y. f x y ≡ g x y) xs (λ k d l. same x _ p (all k d l))) in
    sum_by-congruence_within (λ x. sum_by (f x) xs) (λ x. sum_by (g x) xs) xs
    (recursion_from_All (λ x. sum_by (f x) xs ≡ sum_by (g x) xs) xs (λ k d l. row _ (all k d l)))

-- a sum of terms each of which is at least d
sum_by-ge : {X : Type 0} (d : ℕ) (f : X → ℕ) (xs : List X) → All (λ x. d ≤ f x) xs → length xs * d ≤ sum_by f xs
sum_by-ge {X} d f xs h =
    let same : X → ℕ = λ x. d in
    let least = sum_by-le_within same f xs (recursion_from_All (λ x. d ≤ f x) xs h) in
    let count = sum_by-constant d xs in
    omega arith

-- where each two elements give at least d, the sum is at least d times the number of pairs of two places
pub pair_sum-ge : {X : Type 0} (d : ℕ) (f : X → X → ℕ) (xs : List X) → ((x y : X) → f x y ≡ f y x) → AllPairs (λ x y. d ≤ f x y) xs → d * (length xs * length xs) ≤ pair_sum f xs + d * length xs
pair_sum-ge d f [] flips h = omega arith
pair_sum-ge {X} d f (x ∷ xs) flips h =
    let R : X → X → Type 0 = λ a b. d ≤ f a b in
    let ih = pair_sum-ge d f xs flips (AllPairs-tail R x xs h) in
    let after = sum_by-ge d (f x) xs (AllPairs-head R x xs h) in
    let turned = sum_by-congruence (f x) (λ y. f y x) xs (λ y. flips x y) in
    let more = pair_sum-cons f x xs in
    omega arith

-- where each element with itself gives at most w, and each two elements at most b
pub pair_sum-le : {X : Type 0} (b w : ℕ) (f : X → X → ℕ) (xs : List X) → ((x y : X) → f x y ≡ f y x) → All (λ x. f x x ≤ w) xs → AllPairs (λ x y. f x y ≤ b) xs → pair_sum f xs + b * length xs ≤ b * (length xs * length xs) + w * length xs
pair_sum-le b w f [] flips own h = omega arith
pair_sum-le {X} b w f (x ∷ xs) flips own h =
    let R : X → X → Type 0 = λ y z. f y z ≤ b in
    let ih = pair_sum-le b w f xs flips (All-tail (λ y. f y y ≤ w) x xs own) (AllPairs-tail R x xs h) in
    let self = All-head (λ y. f y y ≤ w) x xs own in
    let after = sum_by-le (f x) b xs (AllPairs-head R x xs h) in
    let turned = sum_by-congruence (f x) (λ y. f y x) xs (λ y. flips x y) in
    let more = pair_sum-cons f x xs in
    omega arith
