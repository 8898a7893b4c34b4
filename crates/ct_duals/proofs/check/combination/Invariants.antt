-- The sum is that of the products before k, and small.
use Rattle.std.proofs.Common.{◌≡◌, ◌≤◌, ◌*◌, ◌^◌, unsigned_abs, ℕ}
use Rattle.std.specs.Prelude.{◌*ℤ◌}
use Rattle.ct_words.specs.Counting.Alternating.{total_below}
use Rattle.ct_words.specs.Numbers.{multiplier}
use Rattle.ct_duals.proofs.check.combination.Given as goal

abbrev pub invariant-loop-k : goal.invariant-loop-k
invariant-loop-k g l =
    (l.sum ≡ total_below (λ (j : ℕ). multiplier l.c j *ℤ g.S.Scheme.number l.scheme j l.i) l.k)
    × (unsigned_abs l.sum ≤ l.k * 2 ^ 110)
