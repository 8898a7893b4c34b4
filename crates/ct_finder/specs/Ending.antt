-- How a run ends, with the multipliers of its dual, and what is read of its primal, in place of its tableau.
use Rattle.ct_finder.specs.Inside.Rows.{multipliers_of}
use Rattle.std.specs.Prelude.{ℕ, ℤ, Bool, List, Option, Some, None}
use Rattle.ct_words.specs.declared.entry.Entry.{Entry}
use Rattle.ct_finder.specs.Column.{columns}
use Rattle.ct_finder.specs.Run.{End}
use Rattle.ct_finder.specs.Run.End.{Least as LeastEnd, Turns as TurnsEnd, Wide as WideEnd}
use Rattle.ct_finder.specs.declared.ending.Ending.{Ending}
use Rattle.ct_finder.specs.declared.ending.Ending.TheVariants.{Least, Turns, Wide}
use Rattle.ct_finder.specs.declared.reading.Reading.{Reading}
use Rattle.ct_finder.specs.declared.reading.Reading.TheVariants as reading
use Rattle.ct_finder.specs.Reading.{reading_of}
use Rattle.ct_finder.specs.declared.found.Stop.{Stop}
use Rattle.ct_finder.specs.declared.found.Stop.TheVariants as stop

-- the end of a run over a range, with the multipliers of the dual that its cost row gives, and its primal
abbrev pub ending_of : Entry → Bool → List ℕ → ℕ → End → Ending
ending_of e even range degree (LeastEnd t) = Least (multipliers_of (columns range degree) degree t.cost) (reading_of e even range t)
ending_of e even range degree TurnsEnd = Turns
ending_of e even range degree (WideEnd x) = Wide x

-- the multipliers of an ending as least
abbrev pub multipliers_from : Ending → Option (List ℤ)
multipliers_from (Least c r) = Some c
multipliers_from Turns = None
multipliers_from (Wide x) = None

-- how a run that ended as least stopped
abbrev pub stop_read : Reading → Stop
stop_read (reading.Primal p) = stop.Least p
stop_read (reading.Wide x) = stop.Wide x

-- how the run stopped, with the pivots that were asked for
abbrev pub stop_from : ℕ → Ending → Stop
stop_from pivots (Least c r) = stop_read r
stop_from pivots Turns = stop.Turns pivots
stop_from pivots (Wide x) = stop.Wide x
