-- The count is that of j, and the sum has the terms up to j, which is no greater than k and i.
use Rattle.std.proofs.Common.{◌≡◌, ◌+◌, ◌-◌, ◌≤◌, min, suc}
use Rattle.ct_words.specs.Counting.Alternating.{total_below}
use Rattle.ct_scheme.specs.Numbers.{term_count}
use Rattle.ct_scheme.proofs.JohnsonSums.{term}
use Rattle.ct_scheme.proofs.numbers.johnson_number.Given as goal

abbrev pub invariant-loop-j : goal.invariant-loop-j
invariant-loop-j l =
    (l.count ≡ term_count l.n l.w l.k l.i l.j)
    × (l.sum ≡ total_below (term l.n l.w l.k l.i) (suc l.j))
    × (l.j ≤ min l.k l.i)
    × (l.k + l.i ≤ min l.w (l.n - l.w) + l.j)
