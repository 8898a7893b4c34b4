-- From the scale so far, the rows that are left lead to the scale of the primal, or to the first that is too large.
use Rattle.std.proofs.Common.{◌≡◌, ◌≤◌, ◌<◌, ◌^◌, drop}
use Rattle.std.specs.Prelude.{find, fold}
use Rattle.ct_finder.specs.RunPrimal.{scales, run_scale, next_scale}
use Rattle.ct_finder.specs.Ready.{seen}
use Rattle.ct_finder.specs.Reading.{is_large, large_scale, lines_seen}
use Rattle.ct_finder.proofs.ReadingLemmas.{of_a}
use Rattle.ct_finder.proofs.reading.scale.Given as goal

abbrev pub invariant-loop-i : goal.invariant-loop-i
invariant-loop-i l =
    (fold next_scale l.q (of_a l.count (drop l.i (lines_seen l.tableau))) ≡ run_scale l.count (seen l.tableau))
    × (find is_large (scales l.q (of_a l.count (drop l.i (lines_seen l.tableau)))) ≡ large_scale l.count (seen l.tableau))
    × (1 ≤ l.q)
    × (l.q < 2 ^ 63)
