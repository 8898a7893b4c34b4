-- The numbers stay small: as many ones at a place as there are words, at most.
use Rattle.std.proofs.Common.{ℕ, ◌+◌, ◌-◌, ◌*◌, ◌/◌, ◌%◌, ◌^◌, ◌<◌, ◌≤◌, ap, sym, subst, arith}
use Rattle.std.specs.Prelude.{nat_lt}
use Rattle.std.proofs.Math.Nat.{div-le_of_le-mul, mul-le-mul, mul-le-mul_right}
use Rattle.ct_words.specs.declared.limits.TheConstants.{MAX_N}
use Rattle.ct_johnson.specs.declared.columns.TheConstants.{MAX_COUNTED}
use Rattle.ct_johnson.proofs.columns.are_too_many.Goals as goal
use Rattle.ct_johnson.proofs.columns.are_too_many.Goals.{After-saturating_sub}

-- there are no more ones at a place than words
each_within : (n w m : ℕ) → w ≤ n → w * m / n ≤ m
each_within n w m h = div-le_of_le-mul n (mul-le-mul_right m h)

one_less : (k l : ℕ) → k ≤ l → k - 1 ≤ l
one_less k l h = omega arith

-- so their pairs are few
pairs_within : (n w m s : ℕ) → w ≤ n → m ≤ MAX_COUNTED → s ≤ MAX_COUNTED → w * m / n * s ≤ MAX_COUNTED * MAX_COUNTED
pairs_within n w m s h few less =
    let each = each_within n w m h in
    let within : w * m / n ≤ MAX_COUNTED = omega arith in
    mul-le-mul within less

places_within : (n w m s : ℕ) → n ≤ MAX_N → w ≤ n → m ≤ MAX_COUNTED → s ≤ MAX_COUNTED → n * (w * m / n * s) ≤ MAX_N * (MAX_COUNTED * MAX_COUNTED)
places_within n w m s short h few less = mul-le-mul short (pairs_within n w m s h few less)

-- and those that are over, too
over_within : (n w m : ℕ) → 1 ≤ n → n ≤ MAX_N → w ≤ n → m ≤ MAX_COUNTED → w * m / n * (w * m % n) ≤ MAX_COUNTED * MAX_COUNTED
over_within n w m some short h few = pairs_within n w m (w * m % n) h few (less (w * m))
  where
    less : (t : ℕ) → t % n ≤ MAX_COUNTED
    less t = omega arith

sum_fits : (a b : ℕ) → a ≤ MAX_N * (MAX_COUNTED * MAX_COUNTED) → b ≤ MAX_COUNTED * MAX_COUNTED → a + 2 * b < 2 ^ 32
sum_fits a b first second = omega arith

small : (k : ℕ) → k ≤ MAX_COUNTED * MAX_COUNTED → k < 2 ^ 32
small k h = omega arith

less : (c : After-saturating_sub) → c.saturating_sub.result ≤ MAX_COUNTED
less c =
    let each = each_within c.args.n c.args.w c.args.words c.requires.weight.1 in
    subst (λ s. s ≤ MAX_COUNTED) (sym c.saturating_sub.ensures) (one_less (c.args.w * c.args.words / c.args.n) MAX_COUNTED (omega (arith, each)))

over : (c : After-saturating_sub) → c.args.w * c.args.words / c.args.n * (c.args.w * c.args.words % c.args.n) ≤ MAX_COUNTED * MAX_COUNTED
over c = over_within c.args.n c.args.w c.args.words c.requires.length.0 c.requires.length.1 c.requires.weight.1 c.requires.counted.1

pub overflow_mul-ones : goal.overflow_mul-ones
overflow_mul-ones c = record { fits = ones_fit c.args.n c.args.w c.args.words c.requires.weight.1 c.requires.length.1 c.requires.counted.1 }
  where
    ones_fit : (n w m : ℕ) → w ≤ n → n ≤ MAX_N → m ≤ MAX_COUNTED → w * m < 2 ^ 32
    ones_fit n w m h short few = let most = mul-le-mul h few in let all = mul-le-mul_right MAX_COUNTED short in omega arith

pub overflow_mul-pairs : goal.overflow_mul-pairs
overflow_mul-pairs c =
    let within = pairs_within c.args.n c.args.w c.args.words c.saturating_sub.result c.requires.weight.1 c.requires.counted.1 (less c) in
    record { fits = small _ within }

pub overflow_mul-pairs-2 : goal.overflow_mul-pairs-2
overflow_mul-pairs-2 c =
    let within = places_within c.args.n c.args.w c.args.words c.saturating_sub.result c.requires.length.1 c.requires.weight.1 c.requires.counted.1 (less c) in
    record { fits = small _ within }
  where
    small : (k : ℕ) → k ≤ MAX_N * (MAX_COUNTED * MAX_COUNTED) → k < 2 ^ 32
    small k h = omega arith

pub overflow_mul-pairs-3 : goal.overflow_mul-pairs-3
overflow_mul-pairs-3 c = record { fits = small _ (over c) }

pub overflow_mul-pairs-4 : goal.overflow_mul-pairs-4
overflow_mul-pairs-4 c = record { fits = small _ (over c) }
  where
    small : (k : ℕ) → k ≤ MAX_COUNTED * MAX_COUNTED → 2 * k < 2 ^ 32
    small k h = omega arith

pub overflow_add-pairs : goal.overflow_add-pairs
overflow_add-pairs c =
    let within = places_within c.args.n c.args.w c.args.words c.saturating_sub.result c.requires.length.1 c.requires.weight.1 c.requires.counted.1 (less c) in
    record { fits = sum_fits _ _ within (over c) }

-- a word with each other one
others_within : (m : ℕ) → m ≤ MAX_COUNTED → m * (m - 1) ≤ MAX_COUNTED * MAX_COUNTED
others_within m few = mul-le-mul few (one_less m MAX_COUNTED few)

pub overflow_mul-result : goal.overflow_mul-result
overflow_mul-result c = record { fits = small _ (others_within c.args.words c.requires.counted.1) }

pub overflow_mul-result-2 : goal.overflow_mul-result-2
overflow_mul-result-2 c =
    record { fits = small c.args.n c.args.w c.args.half _ c.requires.weight.1 c.requires.length.1 (others_within c.args.words c.requires.counted.1) }
  where
    small : (n w half k : ℕ) → w ≤ n → n ≤ MAX_N → k ≤ MAX_COUNTED * MAX_COUNTED → (w - half) * k < 2 ^ 32
    small n w half k h short few =
        let less : w - half ≤ MAX_N = omega arith in
        let most = mul-le-mul less few in
        omega (arith, most)

pub returns : goal.returns
returns c =
    let t = c.args.w * c.args.words in
    let n = c.args.n in
    ap (λ s. nat_lt ((c.args.w - c.args.half) * (c.args.words * (c.args.words - 1))) (n * (t / n * s) + 2 * (t / n * (t % n)))) c.saturating_sub.ensures
