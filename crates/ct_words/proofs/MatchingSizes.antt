-- A bound on how many matchings there can be, read off the table of binomial coefficients.
use Rattle.std.proofs.Common.{◌≡◌, ℕ, zero, suc, ◌+◌, ◌-◌, ◌*◌, ◌/◌, ◌^◌, ◌<◌, ◌≤◌, [], get_or, refl, ap, ◌∙◌, inl, inr, arith}
use Rattle.std.specs.Prelude.{Bool, true, false, nat_lt, ◌&&◌}
use Rattle.std.proofs.lemmas.Bool.{cases_order, ltb-true}
use Rattle.std.proofs.Math.Nat.{mul-le-mul, mul-le-mul_right}
use Rattle.ct_words.specs.Counting.Binomials.{choose, factorial}
use Rattle.ct_words.proofs.Counting.Choices.{choose-monotone}
use Rattle.ct_words.proofs.Counting.Matchings.{matchings}
use Rattle.ct_words.specs.declared.limits.TheConstants.{MAX_N}
use Rattle.ct_words.specs.declared.triangle.TheConstants.{BINOMIALS}
use Rattle.ct_words.proofs.PascalRows.{binomial_is}

-- a test that all numbers below n pass
abbrev all_below : (ℕ → Bool) → ℕ → Bool
all_below p zero = true
all_below p (suc n) = p n && all_below p n

-- both sides of a conjunction hold
and_first : (a b : Bool) → (a && b) ≡ true → a ≡ true
and_first true b h = refl
and_first false b h = h

and_second : (a b : Bool) → (a && b) ≡ true → b ≡ true
and_second true b h = h
and_second false b h = absurd cc

-- what all pass, each passes
passes : (p : ℕ → Bool) (n : ℕ) → all_below p n ≡ true → (k : ℕ) → k < n → p k ≡ true
passes p zero h k l = absurd (omega arith)
passes p (suc n) h k l =
    elim (cases_order k n) [
      | inl same ↦ ap p same ∙ and_first (p n) (all_below p n) h
      | inr apart ↦ passes p n (and_second (p n) (all_below p n) h) k (omega arith)
    ]

-- a binomial coefficient as it stands in the table
abbrev looked_up : ℕ → ℕ → ℕ
looked_up n k = get_or (get_or BINOMIALS n []) k 0

-- whether fewer than 2^47 matchings of k pairs go from a of MAX_N things to the others
abbrev is_bounded_at : ℕ → ℕ → Bool
is_bounded_at a k = nat_lt (looked_up a k * looked_up (MAX_N - a) k * factorial k) (2 ^ 47)

-- so it is for each number of things, and of pairs that they have room for
abbrev is_bounded_from : ℕ → Bool
is_bounded_from a = all_below (is_bounded_at a) (suc (MAX_N / 2))

all_bounded : all_below is_bounded_from (suc MAX_N) ≡ true
all_bounded = refl

-- fewer than 2^47 matchings of k pairs can be made out of MAX_N things
pub matchings-small : (a b k : ℕ) → a + b ≤ MAX_N → k ≤ MAX_N / 2 → matchings a b k < 2 ^ 47
matchings-small a b k h l =
    let from_a = passes is_bounded_from (suc MAX_N) all_bounded a (omega arith) in
    let small = ltb-true _ _ (passes (is_bounded_at a) (suc (MAX_N / 2)) from_a k (omega arith)) in
    let first = binomial_is a k (omega arith) (omega arith) in
    let second = binomial_is (MAX_N - a) k (omega arith) (omega arith) in
    let others : b + (MAX_N - a - b) ≡ MAX_N - a = omega arith in
    let grown = choose-monotone b (MAX_N - a - b) k in
    let same = ap (λ n. choose n k) others in
    let left : choose a k ≤ looked_up a k = omega arith in
    let right : choose b k ≤ looked_up (MAX_N - a) k = omega arith in
    let all = mul-le-mul_right (factorial k) (mul-le-mul left right) in
    omega arith
