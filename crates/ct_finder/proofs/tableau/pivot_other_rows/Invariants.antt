-- The rows before i are pivoted, the others as they were, and no entry is wide.
use Rattle.std.proofs.Common.{◌≡◌, take}
use Rattle.std.specs.Prelude.{find, flat_map, None, List, ℤ}
use Rattle.ct_finder.specs.Pivot.{is_wide}
use Rattle.ct_finder.proofs.Written.{IsWritten}
use Rattle.ct_finder.proofs.PivotedRows.{targets}
use Rattle.ct_finder.proofs.tableau.pivot_other_rows.Given as goal

abbrev pub invariant-loop-i : goal.invariant-loop-i
invariant-loop-i l =
    IsWritten (targets l.e l.pivot l.place l.initial.rows) l.initial.rows l.rows l.i
    × (find is_wide (flat_map (λ (row : List ℤ). row) (take l.i (targets l.e l.pivot l.place l.initial.rows))) ≡ None)
