-- With the products that are left the sum makes up all, and it is small.
use Rattle.std.proofs.Common.{◌≡◌, ◌≤◌, ◌+◌, ◌*◌, ◌^◌, drop, unsigned_abs, ℕ}
use Rattle.std.specs.Prelude.{ℤ, ◌+ℤ◌, ◌*ℤ◌}
use Rattle.ct_words.specs.Counting.Sums.{total}
use Rattle.ct_primal.proofs.primal_check.add_products.Given as goal

abbrev pub invariant-loop-i : goal.invariant-loop-i
invariant-loop-i g l =
    let term : ℕ × ℤ → ℤ = λ u. u.1 *ℤ g.S.Scheme.number l.scheme l.k u.0 in
    (l.sum +ℤ total term (drop l.i-index l.pairs) ≡ l.first +ℤ total term l.pairs)
    × (unsigned_abs l.sum ≤ (l.i-index + 1) * 2 ^ 110)
