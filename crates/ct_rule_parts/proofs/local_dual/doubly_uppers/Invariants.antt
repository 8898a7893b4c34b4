-- With those of the indices that are left they are all.
use Rattle.std.proofs.Common.{◌≡◌, ◌++◌, map, drop}
use Rattle.std.specs.Prelude.{ℕ, ℤ}
use Rattle.ct_duals.specs.Bound.{positive}
use Rattle.ct_rule_parts.specs.Local.{doubly_at}
use Rattle.ct_rule_parts.proofs.local_dual.doubly_uppers.Given as goal

abbrev pub invariant-loop-i : goal.invariant-loop-i
invariant-loop-i l =
    l.uppers.items ++ map (λ (p : ℕ × ℤ). doubly_at l.entry p.0) (positive (drop l.i-index l.y)) ≡ map (λ (p : ℕ × ℤ). doubly_at l.entry p.0) (positive l.y)
