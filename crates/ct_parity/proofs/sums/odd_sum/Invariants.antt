-- The sum is that of the products before k, and small.
use Rattle.std.proofs.Common.{◌≡◌, ◌≤◌, ◌*◌, ◌^◌, unsigned_abs, ℕ}
use Rattle.std.specs.Prelude.{pos, ◌*ℤ◌}
use Rattle.ct_words.specs.Counting.Alternating.{total_below}
use Rattle.ct_words.specs.Numbers.{multiplier}
use Rattle.ct_parity.specs.OddSum.{least_sum}
use Rattle.ct_parity.proofs.sums.odd_sum.Given as goal

abbrev pub invariant-loop-k : goal.invariant-loop-k
invariant-loop-k l =
    (l.sum ≡ total_below (λ (j : ℕ). multiplier l.c j *ℤ pos (least_sum l.n l.m j)) l.k)
    × (unsigned_abs l.sum ≤ l.k * 2 ^ 103)
