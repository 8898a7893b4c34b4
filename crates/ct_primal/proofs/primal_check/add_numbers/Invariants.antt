-- With the numbers that are left the sum makes up all, and it is small.
use Rattle.std.proofs.Common.{◌≡◌, ◌≤◌, ◌+◌, ◌*◌, ◌^◌, drop, unsigned_abs, ℕ}
use Rattle.std.specs.Prelude.{ℤ, pos, ◌+ℤ◌, ◌≤ℤ◌}
use Rattle.ct_words.specs.Counting.Sums.{total}
use Rattle.ct_primal.proofs.primal_check.add_numbers.Given as goal

abbrev pub invariant-loop-number : goal.invariant-loop-number
invariant-loop-number l =
    let term : ℕ × ℤ → ℤ = λ u. u.1 in
    (l.sum +ℤ total term (drop l.number-index l.pairs) ≡ l.first +ℤ total term l.pairs)
    × (pos 1 ≤ℤ l.sum)
    × (unsigned_abs l.sum ≤ (l.number-index + 1) * 2 ^ 63)
