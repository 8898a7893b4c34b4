-- A run by its next pivot.
use Rattle.std.specs.Prelude.{ℕ, List, Option, Some, None, ℤ}
use Rattle.ct_finder.specs.Column.{Column, Tableau}
use Rattle.ct_finder.specs.Pivot.{entering, pivot_row, pivoted, first_wide}
use Rattle.ct_finder.specs.Run.{End}
use Rattle.ct_finder.specs.Run.End.{Least, Wide}

-- what the next pivot gives: the end of the run, or the tableau after it
pub data Step : Type 0 where
  ended : End → Step
  goes : Tableau → Step

-- the tableau after a pivot, or the end before it where an entry would be wide
abbrev pub unless_wide : Option ℤ → Tableau → Step
unless_wide None t = goes t
unless_wide (Some x) t = ended (Wide x)

-- a pivot at the entering column e; without a pivot row it changes nothing
abbrev pub pivoted_at : ℕ → Option ℕ → Tableau → Step
pivoted_at e None t = goes t
pivoted_at e (Some i) t = unless_wide (first_wide (pivoted e i t)) (pivoted e i t)

-- the next pivot at a column that may enter, or the end before it where none does
abbrev pub step_at : Option ℕ → Tableau → Step
step_at None t = ended (Least t)
step_at (Some e) t = pivoted_at e (pivot_row e t) t

-- the next pivot at the first column that may enter, or the end before it
abbrev pub step : List Column → Tableau → Step
step cs t = step_at (entering cs t.cost) t
