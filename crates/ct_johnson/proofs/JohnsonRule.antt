-- Johnson's bound holds for every code, and stays within the table.
use Rattle.std.proofs.Common.{◌≡◌, ℕ, zero, suc, ◌+◌, ◌-◌, ◌*◌, ◌/◌, ◌%◌, ◌^◌, ◌<◌, ◌≤◌, nat_lt, refl, subst, inl, inr, arith, ltb-true}
use Rattle.std.proofs.Math.Nat.{mul-le-mul, mul-le-mul_left, mul-le-mul_right, pow-le-pow_right, div-le_self, div-le_of_le-mul}
use Rattle.std.specs.Prelude.{Option, Some, None, IfSome}
use Rattle.std.proofs.lemmas.Bool.{cases_lt, lt-ltb, le-ltb}
use Rattle.std.proofs.lemmas.Nat.{le-div}
use Rattle.std.proofs.lemmas.Option.{cond_some}
use Rattle.ct_words.specs.Counting.Binomials.{choose, volume}
use Rattle.ct_words.proofs.Counting.Binomials.{choose-le, volume-le, one-le-volume}
use Rattle.ct_words.proofs.Counting.Spread.{IsSpreadBound, IsWeightBound}
use Rattle.ct_words.specs.declared.limits.TheConstants.{MAX_N, MAX_BOUND}
use Rattle.ct_words.specs.Entry.{constant_weight, unrestricted}
use Rattle.ct_words.specs.Code.{IsTrueUpper}
use Rattle.ct_words.proofs.DigitCodes.{bound_from_spread, weight_bound_from_codes}
use Rattle.ct_johnson.specs.Bounds.{johnson_odd}
use Rattle.ct_johnson.proofs.OutsideBalls.{spread_bound-johnson}
use Rattle.ct_johnson.proofs.Quotients.{div-le-div_divisor}

-- what holds of the quotient holds of the value, where the rule gives one
odd_if : (n δ u : ℕ) (P : ℕ → Type 0)
    → (choose (2 * δ - 1) (δ - 1) * u < choose n δ → P (2 ^ n * (n / δ) / (n / δ * volume n (δ - 1) + (choose n δ - choose (2 * δ - 1) (δ - 1) * u))))
    → IfSome (johnson_odd n δ u) P
odd_if n δ u P h =
    elim (cases_lt (choose (2 * δ - 1) (δ - 1) * u) (choose n δ)) [
      | inl above ↦ rw (lt-ltb (choose (2 * δ - 1) (δ - 1) * u) (choose n δ) above) (h above)
      | inr none ↦ rw (le-ltb (choose (2 * δ - 1) (δ - 1) * u) (choose n δ) none) tt
    ]

-- the value bounds lists of words of distance 2δ - 1
pub odd_sound : (n e u : ℕ) → IsWeightBound n (suc (suc (2 * e))) (suc (2 * e)) u → IfSome (johnson_odd n (suc e) u) (λ v. IsSpreadBound n (suc (2 * e)) v)
odd_sound n e u bound =
    let d_is : 2 * suc e - 1 ≡ suc (2 * e) = omega arith in
    let e_is : suc e - 1 ≡ e = omega arith in
    odd_if n (suc e) u (λ v. IsSpreadBound n (suc (2 * e)) v) (λ above. rw (d_is, e_is) (spread_bound-johnson n e u (rw (d_is, e_is) at above) bound))

-- a power of two of the table
pub power-le : (n : ℕ) → n ≤ MAX_N → 2 ^ n ≤ 2 ^ MAX_N
power-le n h = pow-le-pow_right (omega arith) h

-- products that the code computes fit
pub fits_taken : (n k u : ℕ) → n ≤ MAX_N → choose n k * u ≤ MAX_BOUND * u
fits_taken n k u h =
    let one = choose-le n k in
    let power = power-le n h in
    let within : choose n k ≤ MAX_BOUND = omega arith in
    mul-le-mul_right u within

pub fits_balls : (n δ e : ℕ) → n ≤ MAX_N → n / δ * volume n e ≤ MAX_N * MAX_BOUND
fits_balls n δ e h =
    let one = volume-le n e in
    let power = power-le n h in
    let within : volume n e ≤ MAX_BOUND = omega arith in
    let quotient = div-le_self n δ in
    let few : n / δ ≤ MAX_N = omega arith in
    mul-le-mul few within

-- the quotient is at most the number of all words
pub quotient-le : (p f v r : ℕ) → 1 ≤ v → p * f / (f * v + r) ≤ p
quotient-le p f v r h = div-le_of_le-mul (f * v + r) (scaled p f v r h)
  where
    scaled : (p f v r : ℕ) → 1 ≤ v → p * f ≤ (f * v + r) * p
    scaled p f zero r h = absurd (omega arith)
    scaled p f (suc v) r h = omega arith

-- and at least 1
one-le-quotient : (p f v c r : ℕ) → 1 ≤ f → v + c ≤ p → r ≤ c → 1 ≤ r → 1 ≤ p * f / (f * v + r)
one-le-quotient p zero v c r h k l m = absurd (omega arith)
one-le-quotient p (suc f) v c r h k l m =
    let times = mul-le-mul_left (suc f) k in
    le-div 1 (p * suc f) (suc f * v + r) (omega arith) (omega arith)

-- so the value is one of the table
pub odd_within : (n e u : ℕ) → n ≤ MAX_N → suc e ≤ n → IfSome (johnson_odd n (suc e) u) (λ v. (1 ≤ v) × (v ≤ MAX_BOUND))
odd_within n e u h small =
    let e_is : suc e - 1 ≡ e = omega arith in
    odd_if n (suc e) u (λ v. (1 ≤ v) × (v ≤ MAX_BOUND)) (λ above. rw e_is (range (choose (2 * suc e - 1) e * u) (rw e_is at above)))
  where
    range : (t : ℕ) → t < choose n (suc e)
        → (1 ≤ 2 ^ n * (n / suc e) / (n / suc e * volume n e + (choose n (suc e) - t))) × (2 ^ n * (n / suc e) / (n / suc e * volume n e + (choose n (suc e) - t)) ≤ MAX_BOUND)
    range t above =
        let f = n / suc e in
        let room : 1 ≤ f = le-div 1 n (suc e) (omega arith) (omega arith) in
        let inside = volume-le n (suc e) in
        let power = power-le n h in
        let most = quotient-le (2 ^ n) f (volume n e) (choose n (suc e) - t) (one-le-volume n e) in
        let least = one-le-quotient (2 ^ n) f (volume n e) (choose n (suc e)) (choose n (suc e) - t) room (omega arith) (omega arith) (omega arith) in
        (least, omega arith)

-- what implies another fact of a value
if_some-weaker : {X : Type 0} (o : Option X) (P Q : X → Type 0) → ((x : X) → P x → Q x) → IfSome o P → IfSome o Q
if_some-weaker None P Q f h = tt
if_some-weaker (Some x) P Q f h = f x h

-- the bound for an odd distance, for codes
pub johnson_sound : (n d u : ℕ) → d % 2 ≡ 1 → IsTrueUpper (constant_weight n (d + 1) d) u → IfSome (johnson_odd n ((d + 1) / 2) u) (IsTrueUpper (unrestricted n d))
johnson_sound n d u odd premise =
    let e = d / 2 in
    let d_is : suc (2 * e) ≡ d = omega arith in
    let half_is : (d + 1) / 2 ≡ suc e = omega arith in
    let lists : IsWeightBound n (suc (suc (2 * e))) (suc (2 * e)) u = same_weight_bound n (d + 1) (suc (suc (2 * e))) d (suc (2 * e)) u (omega arith) (omega arith) (weight_bound_from_codes n (d + 1) d u (omega arith) premise) in
    rw half_is
    (if_some-weaker (johnson_odd n (suc e) u) (λ v. IsSpreadBound n (suc (2 * e)) v) (IsTrueUpper (unrestricted n d))
    (λ v bound. bound_from_spread n d v (same_spread_bound n (suc (2 * e)) d v d_is bound)) (odd_sound n e u lists))
  where
    same_weight_bound : (n d d' w w' u : ℕ) → d ≡ d' → w ≡ w' → IsWeightBound n d w u → IsWeightBound n d' w' u
    same_weight_bound n d d' w w' u e f bound cs code = bound cs (rw (e, f) code)

    same_spread_bound : (n d d' u : ℕ) → d ≡ d' → IsSpreadBound n d u → IsSpreadBound n d' u
    same_spread_bound n d d' u e bound cs spread = bound cs (rw e spread)

-- and its range
pub johnson_within : (n d u : ℕ) → d % 2 ≡ 1 → d ≤ n → n ≤ MAX_N → IfSome (johnson_odd n ((d + 1) / 2) u) (λ v. (1 ≤ v) × (v ≤ MAX_BOUND))
johnson_within n d u odd long short =
    let half_is : (d + 1) / 2 ≡ suc (d / 2) = omega arith in
    rw half_is (odd_within n (d / 2) u short (omega arith))

-- a better bound gives a number where a worse one does, and none that is greater
pub johnson_odd-le : (n δ u v x : ℕ) → v ≤ u → johnson_odd n δ u ≡ Some x → (y : ℕ) × (johnson_odd n δ v ≡ Some y) × (y ≤ x)
johnson_odd-le n δ u v x better is =
    let taken = choose (2 * δ - 1) (δ - 1) in
    let next = choose n δ in
    let balls = n / δ * volume n (δ - 1) in
    let both = cond_some (nat_lt (taken * u) next) (2 ^ n * (n / δ) / (balls + (next - taken * u))) x is in
    let above = ltb-true (taken * u) next both.0 in
    let less = mul-le-mul_left taken better in
    let quotient = div-le-div_divisor (2 ^ n * (n / δ)) (balls + (next - taken * u)) (balls + (next - taken * v)) (omega arith) (omega arith) in (
      2 ^ n * (n / δ) / (balls + (next - taken * v)),
      rw (lt-ltb (taken * v) next (omega arith)) refl,
      subst (λ z. 2 ^ n * (n / δ) / (balls + (next - taken * v)) ≤ z) both.1 quotient,
    )
