-- A tableau as the definitions see it, and what a pivot needs of it.
use Rattle.std.specs.Prelude.{◌≡◌, ◌≤◌, length, Option, Some, None}
use Rattle.ct_finder.specs.Column.{Tableau as TableauOf}
use Rattle.ct_finder.specs.Run.{End}
use Rattle.ct_finder.specs.Inside.Step.{Step}
use Rattle.ct_finder.specs.Run.End.{Least as LeastEnd, Turns as TurnsEnd, Wide as WideEnd}
use Rattle.ct_finder.specs.Inside.Step.Step.{ended, goes}
use Rattle.ct_finder.specs.Sum.{HasWidth}
use Rattle.ct_finder.specs.declared.tableau.Tableau.{Tableau}
use Rattle.ct_finder.specs.declared.running.Ending.{Ending}
use Rattle.ct_finder.specs.declared.running.Ending.TheVariants.{Least, Turns, Wide}

-- a tableau as the definitions of the run see it
abbrev pub seen : Tableau → TableauOf
seen t = record { rows = t.rows.items; basics = t.basics.items; cost = t.cost }

-- as many basic columns as rows, and rows of one width
pub record IsReady (t : Tableau) : Type 0 where
  pub width : HasWidth (length t.cost) (seen t)
  pub count : length t.basics.items ≡ length t.rows.items
  pub pivot : length t.pivot ≡ length t.cost
  pub some : 2 ≤ length t.cost

-- an end with the tableau
abbrev pub end_of : Ending → TableauOf → End
end_of Least t = LeastEnd t
end_of Turns t = TurnsEnd
end_of (Wide x) t = WideEnd x

-- an end before a pivot, or the tableau after it
abbrev pub step_of : Option Ending → TableauOf → Step
step_of None t = goes t
step_of (Some end) t = ended (end_of end t)
