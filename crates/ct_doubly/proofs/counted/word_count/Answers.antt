-- A binomial coefficient is at most 2^30.
use Rattle.std.proofs.Common.{ℕ, ◌^◌, ◌≤◌, arith}
use Rattle.std.proofs.Math.Nat.{mul-le-mul, pow-le-pow_right}
use Rattle.ct_words.specs.declared.limits.TheConstants.{MAX_N}
use Rattle.ct_words.specs.Counting.Binomials.{choose}
use Rattle.ct_words.proofs.Counting.Binomials.{choose-le}
use Rattle.ct_doubly.proofs.counted.word_count.Goals as goal

small : (n k : ℕ) → n ≤ MAX_N → choose n k ≤ 2 ^ 30
small n k short =
    let most = choose-le n k in
    let power : 2 ^ n ≤ 2 ^ 30 = pow-le-pow_right (omega arith) short in
    omega arith

pub overflow_mul-words : goal.overflow_mul-words
overflow_mul-words c =
    let both = mul-le-mul (small c.args.n1 c.args.w1 c.requires.first) (small c.args.n2 c.args.w2 c.requires.last) in
    rw (c.binomial.ensures, c.binomial-2.ensures) (record { fits = omega arith })
