use Rattle.std.proofs.Common.{ℕ, ◌*◌, ◌^◌, ◌<◌, ◌≤◌, arith}
use Rattle.ct_words.specs.declared.limits.TheConstants.{MAX_N}
use Rattle.ct_build.proofs.right_parts.is_right_other.Goals as goal

-- twice a length is a number of 32 bits
twice : (n : ℕ) → n ≤ MAX_N → 2 * n < 2 ^ 32
twice n short = omega arith

pub overflow_mul-result : goal.overflow_mul-result
overflow_mul-result c =
    let shape = c.requires.other c.in-Uuv-Some.other c.in-Uuv-Some.is-1 in
    record { fits = twice c.in-Uuv-Some.other.n shape.length_to }

pub completes-requires-clause-other : goal.completes-requires-clause-other
completes-requires-clause-other c = c.requires.other c.in-Juxtapose-Some.other c.in-Juxtapose-Some.is-1
