-- The numbers stay small, as words and places are few.
use Rattle.std.proofs.Common.{ℕ, ◌+◌, ◌-◌, ◌*◌, ◌^◌, ◌<◌, ◌≤◌, ap₂, arith}
use Rattle.std.specs.Prelude.{nat_lt}
use Rattle.std.proofs.Math.Nat.{mul-le-mul}
use Rattle.ct_words.specs.declared.limits.TheConstants.{MAX_N}
use Rattle.ct_johnson.specs.declared.columns.TheConstants.{MAX_COUNTED}
use Rattle.ct_doubly.proofs.squares.are_too_many.Goals as goal

-- the weights together are at most the length
both_within : (n1 w1 n2 w2 : ℕ) → n1 + n2 ≤ MAX_N → w1 ≤ n1 → w2 ≤ n2 → w1 + w2 ≤ MAX_N
both_within n1 w1 n2 w2 short first last = omega arith

others_within : (m : ℕ) → m ≤ MAX_COUNTED → m * (m - 1) ≤ MAX_COUNTED * MAX_COUNTED
others_within m few = mul-le-mul few less
  where
    less : m - 1 ≤ MAX_COUNTED
    less = omega arith

scaled : (k p : ℕ) → k ≤ MAX_N → p ≤ MAX_COUNTED * MAX_COUNTED → k * p ≤ MAX_N * (MAX_COUNTED * MAX_COUNTED)
scaled k p short few = mul-le-mul short few

small : (k : ℕ) → k ≤ MAX_COUNTED * MAX_COUNTED → k < 2 ^ 32
small k h = omega arith

large : (k : ℕ) → k ≤ MAX_N * (MAX_COUNTED * MAX_COUNTED) → k < 2 ^ 32
large k h = omega arith

pub overflow_add-squares : goal.overflow_add-squares
overflow_add-squares c = record { fits = sum _ _ c.least_squares.ensures.small c.least_squares-2.ensures.small }
  where
    sum : (a b : ℕ) → a < 2 ^ 25 → b < 2 ^ 25 → a + b < 2 ^ 32
    sum a b first last = omega arith

pub overflow_add-result : goal.overflow_add-result
overflow_add-result c =
    record { fits = short _ (both_within c.args.n1 c.args.w1 c.args.n2 c.args.w2 c.requires.length c.requires.first c.requires.last) }
  where
    short : (k : ℕ) → k ≤ MAX_N → k < 2 ^ 32
    short k h = omega arith

pub overflow_mul-result : goal.overflow_mul-result
overflow_mul-result c = record { fits = small _ (mul-le-mul c.requires.counted.1 c.requires.counted.1) }

pub overflow_mul-result-2 : goal.overflow_mul-result-2
overflow_mul-result-2 c =
    let weights = both_within c.args.n1 c.args.w1 c.args.n2 c.args.w2 c.requires.length c.requires.first c.requires.last in
    record { fits = large _ (scaled _ _ weights (mul-le-mul c.requires.counted.1 c.requires.counted.1)) }

pub overflow_sub-result : goal.overflow_sub-result
overflow_sub-result c = c.requires.counted.0

pub overflow_mul-result-3 : goal.overflow_mul-result-3
overflow_mul-result-3 c = record { fits = small _ (others_within c.args.words c.requires.counted.1) }

pub overflow_mul-result-4 : goal.overflow_mul-result-4
overflow_mul-result-4 c = record { fits = large _ (scaled _ _ c.requires.distance (others_within c.args.words c.requires.counted.1)) }

pub overflow_add-result-2 : goal.overflow_add-result-2
overflow_add-result-2 c =
    let within = scaled _ _ c.requires.distance (others_within c.args.words c.requires.counted.1) in
    record { fits = sum _ _ _ within c.least_squares.ensures.small c.least_squares-2.ensures.small }
  where
    sum : (k a b : ℕ) → k ≤ MAX_N * (MAX_COUNTED * MAX_COUNTED) → a < 2 ^ 25 → b < 2 ^ 25 → k + (a + b) < 2 ^ 32
    sum k a b h first last = omega arith

pub returns : goal.returns
returns c =
    let m = c.args.words in
    ap₂ (λ a b. nat_lt ((c.args.w1 + c.args.w2) * (m * m)) (c.args.half * (m * (m - 1)) + (a + b)))
    c.least_squares.ensures.value c.least_squares-2.ensures.value
