-- The first number that is too large is among those of the rows that are left.
use Rattle.std.proofs.Common.{◌≡◌, drop, map}
use Rattle.std.specs.Prelude.{find}
use Rattle.ct_finder.specs.RunPrimal.{scaled}
use Rattle.ct_finder.specs.Ready.{seen}
use Rattle.ct_finder.specs.Reading.{is_large, large_number, lines_seen}
use Rattle.ct_finder.proofs.ReadingLemmas.{of_a}
use Rattle.ct_finder.proofs.reading.large_number.Given as goal

abbrev pub invariant-loop-i : goal.invariant-loop-i
invariant-loop-i l =
    find is_large (map (scaled l.q) (of_a l.count (drop l.i (lines_seen l.tableau)))) ≡ large_number l.q l.count (seen l.tableau)
