-- The number is that of the rows that are left.
use Rattle.std.proofs.Common.{◌≡◌, drop}
use Rattle.ct_finder.specs.RunPrimal.{number_at_place}
use Rattle.ct_finder.specs.Reading.{lines_seen}
use Rattle.ct_finder.proofs.reading.number_at.Given as goal

abbrev pub invariant-loop-i : goal.invariant-loop-i
invariant-loop-i l = number_at_place l.q (drop l.i (lines_seen l.tableau)) l.place ≡ number_at_place l.q (lines_seen l.tableau) l.place
