-- The entries before j are divided, the others as they were, and none is wide.
use Rattle.ct_finder.specs.Inside.Pivot.{crossed}
use Rattle.std.proofs.Common.{◌≡◌, take, map}
use Rattle.std.specs.Prelude.{find, None, int_div, ℤ}
use Rattle.ct_finder.specs.Pivot.{is_wide}
use Rattle.ct_finder.specs.Narrow.{AreNarrow}
use Rattle.ct_finder.proofs.Written.{IsWritten}
use Rattle.ct_finder.proofs.row.divide_crossed.Given as goal

abbrev pub invariant-loop-j : goal.invariant-loop-j
invariant-loop-j l =
    IsWritten (map (λ (z : ℤ). int_div z l.divisor) (crossed l.p l.r l.pivot l.initial.row)) l.initial.row l.row l.j
    × (find is_wide (take l.j (map (λ (z : ℤ). int_div z l.divisor) (crossed l.p l.r l.pivot l.initial.row))) ≡ None)
    × AreNarrow l.row
