use Rattle.ct_duals.specs.Dual.{degree_of}
use Rattle.ct_finder.specs.Column.{range_of}
use Rattle.ct_finder.proofs.BasicRuns.{back-after, basic-after}
use Rattle.ct_laws.proofs.math.finder.solutions_of_rows_solve_opening_rows.Goals as goal

pub returns-clause-solutions : goal.returns-clause-solutions
returns-clause-solutions c = λ number e even pivots x. back-after number (range_of e even) (degree_of e) pivots x

pub returns-clause-basic : goal.returns-clause-basic
returns-clause-basic c = λ number e even pivots some. basic-after number (range_of e even) (degree_of e) pivots some
