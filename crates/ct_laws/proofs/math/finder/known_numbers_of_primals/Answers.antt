use Rattle.std.proofs.Common.{ℕ, List, ◌++◌, map, refl, ap}
use Rattle.std.specs.Prelude.{find, pos}
use Rattle.ct_finder.specs.Divisor.{gcd_of}
use Rattle.ct_finder.specs.Pivot.{is_wide}
use Rattle.ct_finder.specs.RunPrimal.{lines_of_a, run_scale, scaled}
use Rattle.ct_finder.proofs.EuclidRuns.{scales-euclid}
use Rattle.ct_laws.specs.Mathematics.RunExamples.{wide_scale_tableau}
use Rattle.ct_laws.proofs.math.finder.known_numbers_of_primals.Goals as goal

pub returns-clause-order : goal.returns-clause-order
unfolding gcd_of
returns-clause-order c = refl

pub returns-clause-none : goal.returns-clause-none
unfolding gcd_of
returns-clause-none c = refl

pub returns-clause-scale : goal.returns-clause-scale
returns-clause-scale c =
    let lines = lines_of_a 1 wide_scale_tableau in
    ap (λ (qs : List ℕ). find is_wide (map pos (qs ++ map (scaled (run_scale 1 wide_scale_tableau)) lines))) (scales-euclid 1 lines)

pub returns-clause-number : goal.returns-clause-number
unfolding gcd_of
returns-clause-number c = refl
