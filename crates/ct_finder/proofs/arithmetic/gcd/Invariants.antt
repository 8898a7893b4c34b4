-- What divides both numbers divides both of the first.
use Rattle.std.proofs.Common.{ℕ, ◌<◌, ◌^◌}
use Rattle.std.specs.Int.{IsGcd}
use Rattle.ct_finder.proofs.arithmetic.gcd.Given as goal

abbrev pub invariant-loop-rest : goal.invariant-loop-rest
invariant-loop-rest l =
    ((g : ℕ) → IsGcd l.divisor l.rest g → IsGcd l.fn.a l.fn.b g)
    × (l.fn.a < 2 ^ 127 → l.fn.b < 2 ^ 127 → (l.divisor < 2 ^ 127) × (l.rest < 2 ^ 127))

abbrev pub decreases-loop-rest : goal.decreases-loop-rest
decreases-loop-rest l = l.rest
