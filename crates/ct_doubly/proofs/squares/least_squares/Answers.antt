-- There are no more ones at a place than words.
use Rattle.std.proofs.Common.{◌≢◌, ℕ, zero, suc, ◌+◌, ◌*◌, ◌/◌, ◌%◌, ◌^◌, ◌<◌, ◌≤◌, refl, arith}
use Rattle.std.proofs.Math.Nat.{div-le_of_le-mul, mul-le-mul, mul-le-mul_right}
use Rattle.ct_words.specs.declared.limits.TheConstants.{MAX_N}
use Rattle.ct_johnson.specs.declared.columns.TheConstants.{MAX_COUNTED}
use Rattle.ct_doubly.proofs.squares.least_squares.Goals as goal
use Rattle.ct_doubly.proofs.squares.least_squares.Goals.{Else-n-eq0}

-- so their numbers are at most 1,000
each_within : (n w m : ℕ) → w ≤ n → m ≤ MAX_COUNTED → w * m / n ≤ MAX_COUNTED
each_within n w m h few =
    let each : w * m / n ≤ m = div-le_of_le-mul n (mul-le-mul_right m h) in
    omega arith

-- and the squares of them at most 1,000,000
squares_within : (n w m : ℕ) → n ≤ MAX_N → w ≤ n → m ≤ MAX_COUNTED → n * (w * m / n * (w * m / n)) ≤ MAX_N * (MAX_COUNTED * MAX_COUNTED)
squares_within n w m short h few =
    let each = each_within n w m h few in
    mul-le-mul short (mul-le-mul each each)

over_within : (n t : ℕ) → n ≢ 0 → n ≤ MAX_N → t % n ≤ MAX_N
over_within zero t some short = absurd (some refl)
over_within (suc n) t some short = omega arith

-- those that are over are few
both_within : (n w m : ℕ) → n ≢ 0 → n ≤ MAX_N → w ≤ n → m ≤ MAX_COUNTED → w * m / n * (w * m % n) ≤ MAX_COUNTED * MAX_N
both_within n w m some short h few = mul-le-mul (each_within n w m h few) (over_within n (w * m) some short)

-- and so is the sum
sum_small : (a b o : ℕ) → a ≤ MAX_N * (MAX_COUNTED * MAX_COUNTED) → b ≤ MAX_COUNTED * MAX_N → o ≤ MAX_N → a + 2 * b + o < 2 ^ 25
sum_small a b o first second third = omega arith

fits : (k l : ℕ) → k ≤ l → l < 2 ^ 25 → k < 2 ^ 32
fits k l h small = omega arith

small : (c : Else-n-eq0)
    → c.args.n * (c.args.w * c.args.words / c.args.n * (c.args.w * c.args.words / c.args.n))
    + 2 * (c.args.w * c.args.words / c.args.n * (c.args.w * c.args.words % c.args.n)) + c.args.w * c.args.words % c.args.n < 2 ^ 25
small c =
    sum_small _ _ _ (squares_within c.args.n c.args.w c.args.words c.requires.length c.requires.weight c.requires.counted)
    (both_within c.args.n c.args.w c.args.words c.if-n-eq0.false c.requires.length c.requires.weight c.requires.counted)
    (over_within c.args.n (c.args.w * c.args.words) c.if-n-eq0.false c.requires.length)

pub overflow_mul-ones : goal.overflow_mul-ones
overflow_mul-ones c = record { fits = ones c.args.n c.args.w c.args.words c.requires.length c.requires.weight c.requires.counted }
  where
    ones : (n w m : ℕ) → n ≤ MAX_N → w ≤ n → m ≤ MAX_COUNTED → w * m < 2 ^ 32
    ones n w m short h few = let most = mul-le-mul h few in let all = mul-le-mul_right MAX_COUNTED short in omega arith

pub overflow_mul-result : goal.overflow_mul-result
overflow_mul-result c =
    let each = each_within c.args.n c.args.w c.args.words c.requires.weight c.requires.counted in
    record { fits = fits _ (MAX_COUNTED * MAX_COUNTED) (mul-le-mul each each) lit }
  where
    lit : MAX_COUNTED * MAX_COUNTED < 2 ^ 25
    lit = omega arith

pub overflow_mul-result-2 : goal.overflow_mul-result-2
overflow_mul-result-2 c =
    let within = squares_within c.args.n c.args.w c.args.words c.requires.length c.requires.weight c.requires.counted in
    record { fits = fits _ (MAX_N * (MAX_COUNTED * MAX_COUNTED)) within lit }
  where
    lit : MAX_N * (MAX_COUNTED * MAX_COUNTED) < 2 ^ 25
    lit = omega arith

pub overflow_mul-result-3 : goal.overflow_mul-result-3
overflow_mul-result-3 c =
    record { fits = part _ (both_within c.args.n c.args.w c.args.words c.if-n-eq0.false c.requires.length c.requires.weight c.requires.counted) }
  where
    part : (k : ℕ) → k ≤ MAX_COUNTED * MAX_N → k < 2 ^ 32
    part k h = omega arith

pub overflow_mul-result-4 : goal.overflow_mul-result-4
overflow_mul-result-4 c =
    record { fits = part _ (both_within c.args.n c.args.w c.args.words c.if-n-eq0.false c.requires.length c.requires.weight c.requires.counted) }
  where
    part : (k : ℕ) → k ≤ MAX_COUNTED * MAX_N → 2 * k < 2 ^ 32
    part k h = omega arith

pub overflow_add-result : goal.overflow_add-result
overflow_add-result c = record { fits = part _ _ (small c) }
  where
    part : (k o : ℕ) → k + o < 2 ^ 25 → k < 2 ^ 32
    part k o h = omega arith

pub overflow_add-result-2 : goal.overflow_add-result-2
overflow_add-result-2 c = record { fits = whole _ (small c) }
  where
    whole : (k : ℕ) → k < 2 ^ 25 → k < 2 ^ 32
    whole k h = omega arith

pub returns-clause-value : goal.returns-clause-value
returns-clause-value c = refl

pub returns-clause-small : goal.returns-clause-small
returns-clause-small c = small c
