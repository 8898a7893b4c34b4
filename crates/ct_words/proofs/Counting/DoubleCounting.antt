-- Counting the pairs of a relation between two lists both ways.
use Rattle.std.proofs.Common.{◌≡◌, ℕ, zero, suc, ◌+◌, ◌≤◌, List, [], ◌∷◌, refl, arith, inl, inr}
use Rattle.std.specs.Prelude.{Bool, true, false, cond, ◌==◌, nat_le, count_by}
use Rattle.std.specs.List.{sum_by, All, AllPairs}
use Rattle.std.proofs.lemmas.Bool.{cases_Bool, cond-true, cond-false}
use Rattle.std.proofs.lemmas.Bool.Decides.{nat_tests}
use Rattle.std.proofs.lemmas.List.Elements.{All-head, All-tail, recursion_from_All}
use Rattle.std.proofs.lemmas.List.Sums.{sum_by-cons}
use Rattle.ct_words.specs.Counting.Sums.{sum_below}
use Rattle.ct_words.proofs.Counting.Sums.{sum_by-swap, sum_by-add, sum_by-congruence, sum_by-le_within}
use Rattle.ct_words.proofs.Counting.Pairs.{AllPairs-head, AllPairs-tail}

-- the pairs of a relation between two lists, counted from either list
pub count_by-swap : {X Y : Type 0} (r : X → Y → Bool) (xs : List X) (ys : List Y) → sum_by (λ x. count_by (r x) ys) xs ≡ sum_by (λ y. count_by (λ x. r x y) xs) ys
count_by-swap r xs ys = sum_by-swap (λ x y. cond (r x y) 1 0) xs ys

-- a test that no element passes counts nothing
pub count_by-none : {X : Type 0} (p : X → Bool) (xs : List X) → All (λ x. p x ≡ false) xs → count_by p xs ≡ 0
count_by-none p [] h = refl
count_by-none {X} p (x ∷ xs) h =
    let ih = count_by-none p xs (All-tail (λ y. p y ≡ false) x xs h) in
    let term : X → ℕ = λ y. cond (p y) 1 0 in
    let first : term x ≡ 0 = cond-false (p x) 1 0 (All-head (λ y. p y ≡ false) x xs h) in
    omega (arith, sum_by-cons term x xs)

-- a test that no two elements of a list pass counts at most one
pub count_by-le_one : {X : Type 0} (p : X → Bool) (xs : List X) → AllPairs (λ x y. p x ≡ true → p y ≡ false) xs → count_by p xs ≤ 1
count_by-le_one p [] h = omega arith
count_by-le_one {X} p (x ∷ xs) h =
    let term : X → ℕ = λ y. cond (p y) 1 0 in
    let more = sum_by-cons term x xs in
    let R : X → X → Type 0 = λ a b. p a ≡ true → p b ≡ false in
    let ih = count_by-le_one p xs (AllPairs-tail R x xs h) in
    elim (cases_Bool (p x)) [
      | inl passes ↦
          let rest = count_by-none p xs (λ k d l. AllPairs-head R x xs h k d l passes) in
          let first : term x ≡ 1 = cond-true (p x) 1 0 passes in
          omega arith
      | inr fails ↦ let first : term x ≡ 0 = cond-false (p x) 1 0 fails in omega arith
    ]

-- what is at most e + 1 is at most e, or e + 1
le_or_next : (a e : ℕ) → cond (nat_le a (suc e)) 1 0 ≡ cond (nat_le a e) 1 0 + cond (a == suc e) 1 0
le_or_next a e = grind (arith, nat_tests)

-- how many elements have a measure of at most e, by the value of the measure
pub count_by-le : {X : Type 0} (f : X → ℕ) (xs : List X) (e : ℕ) → count_by (λ x. nat_le (f x) e) xs ≡ sum_below (λ j. count_by (λ x. f x == j) xs) (suc e)
count_by-le {X} f xs zero =
    let within : X → ℕ = λ x. cond (nat_le (f x) 0) 1 0 in
    let at : X → ℕ = λ x. cond (f x == 0) 1 0 in
    let same = sum_by-congruence within at xs (λ x. grind (arith, nat_tests)) in
    omega arith
count_by-le {X} f xs (suc e) =
    let within : X → ℕ = λ x. cond (nat_le (f x) (suc e)) 1 0 in
    let before : X → ℕ = λ x. cond (nat_le (f x) e) 1 0 in
    let at : X → ℕ = λ x. cond (f x == suc e) 1 0 in
    let both : X → ℕ = λ x. before x + at x in
    let same : sum_by within xs ≡ sum_by both xs = sum_by-congruence within both xs (λ x. le_or_next (f x) e) in
    let split = sum_by-add before at xs in
    let ih = count_by-le f xs e in
    omega arith

-- where each x is in the relation to at least f x of the list ys, and each y to at most g y of the list xs, the f x add
-- up to at most the g y
pub double_count : {X Y : Type 0} (r : X → Y → Bool) (f : X → ℕ) (g : Y → ℕ) (xs : List X) (ys : List Y) → All (λ x. f x ≤ count_by (r x) ys) xs → All (λ y. count_by (λ x. r x y) xs ≤ g y) ys → sum_by f xs ≤ sum_by g ys
double_count {X} {Y} r f g xs ys least most =
    let rows : X → ℕ = λ x. count_by (r x) ys in
    let columns : Y → ℕ = λ y. count_by (λ x. r x y) xs in
    let low = sum_by-le_within f rows xs (recursion_from_All (λ x. f x ≤ rows x) xs least) in
    let high = sum_by-le_within columns g ys (recursion_from_All (λ y. columns y ≤ g y) ys most) in
    let both = count_by-swap r xs ys in
    omega arith
