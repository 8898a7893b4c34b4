use Rattle.std.proofs.Common.{refl, ◌^◌, [], ◌∷◌}
use Rattle.std.specs.Prelude.{pos, negsuc}
use Rattle.ct_finder.specs.Column.{columns}
use Rattle.ct_finder.proofs.EuclidRuns.{run-euclid}
use Rattle.ct_laws.specs.Mathematics.RunExamples.{one_row}
use Rattle.ct_laws.proofs.math.finder.known_wide_entries.Goals as goal

pub returns-clause-in_a_row : goal.returns-clause-in_a_row
returns-clause-in_a_row c = refl

pub returns-clause-in_the_cost_row : goal.returns-clause-in_the_cost_row
returns-clause-in_the_cost_row c = refl

pub returns-clause-none : goal.returns-clause-none
returns-clause-none c = refl

pub returns-clause-ends : goal.returns-clause-ends
returns-clause-ends c = run-euclid (columns [] 1) 1 (one_row (2 ^ 62) (pos 1 ∷ negsuc 1 ∷ pos 0 ∷ []))

pub returns-clause-goes_on : goal.returns-clause-goes_on
returns-clause-goes_on c = run-euclid (columns [] 1) 1 (one_row (2 ^ 61) (pos 1 ∷ negsuc 1 ∷ pos 0 ∷ []))
