-- Sums of an odd number of signs: each is odd, so its square is at least 1.
use Rattle.std.proofs.Common.{◌≡◌, ℕ, zero, suc, ◌+◌, ◌/◌, ◌%◌, List, [], ◌∷◌, length, sym, ◌∙◌, subst, arith}
use Rattle.std.specs.Prelude.{ℤ, pos, negsuc, neg_ℤ, ◌+ℤ◌, ◌≤ℤ◌}
use Rattle.std.proofs.lemmas.Int.{ints}
use Rattle.ct_words.specs.Counting.Sums.{total}
use Rattle.ct_words.specs.Counting.Alternating.{sign}
use Rattle.ct_words.specs.Counting.PairTotals.{square}

-- a sign is 1, but for an even number
sign-odd : (j : ℕ) → (z : ℤ) × (sign j ≡ pos 1 +ℤ (z +ℤ z))
sign-odd zero = (pos 0, omega (arith, ints))
sign-odd (suc j) =
    let (z, is) = sign-odd j in
    (neg_ℤ z +ℤ negsuc 0, omega (arith, ints))

-- so many signs add up to their number, but for an even number
signs-odd : {X : Type 0} (f : X → ℕ) (xs : List X) → (z : ℤ) × (total (λ x. sign (f x)) xs ≡ pos (length xs) +ℤ (z +ℤ z))
signs-odd f [] = (pos 0, omega (arith, ints))
signs-odd f (x ∷ xs) =
    let (a, first) = sign-odd (f x) in
    let (b, others) = signs-odd f xs in
    (a +ℤ b, omega (arith, ints))

-- the square of a number below 0 is at least 1
square-negative : (m : ℕ) → pos 1 ≤ℤ square (negsuc m)
square-negative m = omega (arith, ints)

-- the square of an odd number is at least 1
square-odd : (z : ℤ) → pos 1 ≤ℤ square (pos 1 +ℤ (z +ℤ z))
square-odd (pos a) = omega (arith, ints)
square-odd (negsuc a) =
    let below_zero : pos 1 +ℤ (negsuc a +ℤ negsuc a) ≡ negsuc (a + a) = omega (arith, ints) in
    subst (λ (s : ℤ). pos 1 ≤ℤ square s) (sym below_zero) (square-negative (a + a))

-- the square of the sum of an odd number of signs is at least 1
pub square-signs : {X : Type 0} (f : X → ℕ) (xs : List X) → length xs % 2 ≡ 1 → pos 1 ≤ℤ square (total (λ x. sign (f x)) xs)
square-signs f xs odd =
    let (z, is) = signs-odd f xs in
    let half = length xs / 2 in
    let one_more : pos (length xs) +ℤ (z +ℤ z) ≡ pos 1 +ℤ ((pos half +ℤ z) +ℤ (pos half +ℤ z)) = omega (arith, ints) in
    subst (λ (s : ℤ). pos 1 ≤ℤ square s) (sym (is ∙ one_more)) (square-odd (pos half +ℤ z))
