-- The signs of an alternating sum, and how large a sum of bounded terms is.
use Rattle.std.proofs.Common.{◌≡◌, ℕ, zero, suc, ◌+◌, ◌*◌, ◌%◌, ◌<◌, ◌≤◌, refl, ap, ◌∙◌, arith}
use Rattle.std.specs.Prelude.{ℤ, pos, negsuc, neg_ℤ, ◌+ℤ◌, ◌-ℤ◌, ◌*ℤ◌, unsigned_abs}
use Rattle.std.proofs.lemmas.Int.{ints, unsigned_abs-mul}
use Rattle.ct_words.specs.Counting.Alternating.{total_below, sign}

-- the sign is that of the parity
pub sign-even : (j : ℕ) → j % 2 ≡ 0 → sign j ≡ pos 1
sign-even zero e = refl
sign-even (suc zero) e = absurd (omega arith)
sign-even (suc (suc j)) e = let ih = sign-even j (omega arith) in ap (λ z. neg_ℤ (neg_ℤ z)) ih

pub sign-odd : (j : ℕ) → j % 2 ≡ 1 → sign j ≡ negsuc 0
sign-odd zero e = absurd (omega arith)
sign-odd (suc zero) e = refl
sign-odd (suc (suc j)) e = let ih = sign-odd j (omega arith) in ap (λ z. neg_ℤ (neg_ℤ z)) ih

-- so is a signed count
pub signed-even : (j count : ℕ) → j % 2 ≡ 0 → sign j *ℤ pos count ≡ pos count
signed-even j count e = ap (λ z. z *ℤ pos count) (sign-even j e) ∙ omega (arith, ints)

pub signed-odd : (j count : ℕ) → j % 2 ≡ 1 → sign j *ℤ pos count ≡ neg_ℤ (pos count)
signed-odd j count e = ap (λ z. z *ℤ pos count) (sign-odd j e) ∙ omega (arith, ints)

-- its absolute value is the count
pub unsigned_abs-sign : (j : ℕ) → unsigned_abs (sign j) ≡ 1
unsigned_abs-sign zero = refl
unsigned_abs-sign (suc j) = let ih = unsigned_abs-sign j in omega (arith, ints)

pub unsigned_abs-signed : (j count : ℕ) → unsigned_abs (sign j *ℤ pos count) ≡ count
unsigned_abs-signed j count = unsigned_abs-mul (sign j) (pos count) ∙ ap (λ m. m * count) (unsigned_abs-sign j) ∙ omega arith

-- the absolute value of a sum or a difference is at most the sum of the absolute values
pub unsigned_abs-add : (a b : ℤ) → unsigned_abs (a +ℤ b) ≤ unsigned_abs a + unsigned_abs b
unsigned_abs-add a b = omega (arith, ints)

pub unsigned_abs-sub : (a b : ℤ) → unsigned_abs (a -ℤ b) ≤ unsigned_abs a + unsigned_abs b
unsigned_abs-sub a b = omega (arith, ints)

-- a sum of bounded terms
pub total_below-bounded : (f : ℕ → ℤ) (bound k : ℕ) → ((j : ℕ) → j < k → unsigned_abs (f j) ≤ bound) → unsigned_abs (total_below f k) ≤ k * bound
total_below-bounded f bound zero h = omega arith
total_below-bounded f bound (suc k) h =
    let ih = total_below-bounded f bound k (λ j l. h j (omega arith)) in
    let last = h k (omega arith) in
    let sum = unsigned_abs-add (total_below f k) (f k) in
    omega arith
