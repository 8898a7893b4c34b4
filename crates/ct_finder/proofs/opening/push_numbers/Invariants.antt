use Rattle.std.proofs.Common.{◌≡◌, ◌++◌, map, take}
use Rattle.std.specs.Prelude.{neg_ℤ}
use Rattle.ct_finder.proofs.opening.push_numbers.Given as goal

-- those of the indices so far
abbrev pub invariant-loop-i : goal.invariant-loop-i
invariant-loop-i g l =
    l.entries.items ≡ l.fn.entries.items ++ map (λ i. neg_ℤ (g.S.Scheme.number l.scheme l.k i)) (take l.i-index l.range)
