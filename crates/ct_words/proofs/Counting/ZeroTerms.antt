-- Sums of whole numbers whose first terms, or last ones, are 0.
use Rattle.std.proofs.Common.{◌≡◌, ℕ, zero, suc, ◌+◌, ◌<◌, ◌≤◌, refl, ap, arith}
use Rattle.std.specs.Prelude.{ℤ, pos}
use Rattle.std.proofs.lemmas.Int.{ints}
use Rattle.ct_words.specs.Counting.Alternating.{total_below}

-- no term but 0
pub total_below-zeros : (f : ℕ → ℤ) (k : ℕ) → ((j : ℕ) → j < k → f j ≡ pos 0) → total_below f k ≡ pos 0
total_below-zeros f zero h = refl
total_below-zeros f (suc k) h =
    let ih = total_below-zeros f k (λ j l. h j (omega arith)) in
    let last = h k (omega arith) in
    omega (arith, ints)

-- no term but 0 from some place on
pub total_below-past : (f : ℕ → ℤ) (k m : ℕ) → ((j : ℕ) → k ≤ j → f j ≡ pos 0) → total_below f (k + m) ≡ total_below f k
total_below-past f k zero h = let e : k + 0 ≡ k = omega arith in ap (total_below f) e
total_below-past f k (suc m) h =
    let ih = total_below-past f k m h in
    let e : k + suc m ≡ suc (k + m) = omega arith in
    let same = ap (total_below f) e in
    let last = h (k + m) (omega arith) in
    omega (arith, ints)
