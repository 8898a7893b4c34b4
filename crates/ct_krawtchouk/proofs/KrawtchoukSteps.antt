-- From two Krawtchouk numbers to the next, and how large they are.
use Rattle.std.proofs.Common.{◌≡◌, ℕ, zero, suc, ◌+◌, ◌-◌, ◌*◌, ◌^◌, ◌<◌, ◌≤◌, sym, ap, ap₂, ◌∙◌, refl, arith}
use Rattle.std.specs.Prelude.{ℤ, pos, ◌-ℤ◌, ◌*ℤ◌, unsigned_abs}
use Rattle.std.proofs.Math.Nat.{pow-le-pow_right}
use Rattle.std.proofs.lemmas.Int.{ints}
use Rattle.ct_words.proofs.Counting.SignedBinomials.{signed_binomial, signed_binomial-le_power}
use Rattle.ct_words.proofs.Counting.BinomialSteps.{signed_binomial-second, signed_binomial-step}
use Rattle.ct_words.specs.declared.limits.TheConstants.{MAX_N}
use Rattle.ct_words.specs.Numbers.{krawtchouk}
use Rattle.ct_krawtchouk.specs.Krawtchouk.{krawtchouk_before}

-- the number as a coefficient
coefficient : (n k i : ℕ) → krawtchouk n k i ≡ signed_binomial i (n - i) k
unfolding krawtchouk signed_binomial
coefficient n k i = refl

-- nothing taken off
less_none : (z : ℤ) → z ≡ z -ℤ pos 0
less_none z = omega (arith, ints)

-- the recurrence
pub krawtchouk-step : (n k i : ℕ) → i ≤ n → k < n
    → pos (suc k) *ℤ krawtchouk n (suc k) i ≡ ((pos (n - i) -ℤ pos i) *ℤ krawtchouk n k i) -ℤ (pos (n + 1 - k) *ℤ krawtchouk_before n k i)
krawtchouk-step n zero i h l =
    let none : (n + 1 - 0) * 0 ≡ 0 = omega arith in
    ap (λ z. pos 1 *ℤ z) (coefficient n 1 i)
    ∙ signed_binomial-second i (n - i)
    ∙ ap (λ z. (pos (n - i) -ℤ pos i) *ℤ z) (sym (coefficient n 0 i))
    ∙ less_none ((pos (n - i) -ℤ pos i) *ℤ krawtchouk n 0 i)
    ∙ ap (λ m. ((pos (n - i) -ℤ pos i) *ℤ krawtchouk n 0 i) -ℤ pos m) (sym none)
krawtchouk-step n (suc k) i h l =
    let rest : i + (n - i) - k ≡ n + 1 - suc k = omega arith in
    ap (λ z. pos (suc (suc k)) *ℤ z) (coefficient n (suc (suc k)) i)
    ∙ signed_binomial-step i (n - i) k (omega arith)
    ∙ ap₂ (λ z m. ((pos (n - i) -ℤ pos i) *ℤ z) -ℤ (pos m *ℤ signed_binomial i (n - i) k)) (sym (coefficient n (suc k) i)) rest
    ∙ ap (λ z. ((pos (n - i) -ℤ pos i) *ℤ krawtchouk n (suc k) i) -ℤ (pos (n + 1 - suc k) *ℤ z)) (sym (coefficient n k i))

-- a number is at most 2^MAX_N
pub krawtchouk-le : (n k i : ℕ) → i ≤ n → n ≤ MAX_N → unsigned_abs (krawtchouk n k i) ≤ 2 ^ MAX_N
krawtchouk-le n k i h short =
    let size = signed_binomial-le_power n k i h in
    let same = ap unsigned_abs (coefficient n k i) in
    let power : 2 ^ n ≤ 2 ^ MAX_N = pow-le-pow_right (omega arith) short in
    omega arith

pub krawtchouk_before-le : (n k i : ℕ) → i ≤ n → n ≤ MAX_N → unsigned_abs (krawtchouk_before n k i) ≤ 2 ^ MAX_N
krawtchouk_before-le n zero i h short = omega arith
krawtchouk_before-le n (suc k) i h short = krawtchouk-le n k i h short
