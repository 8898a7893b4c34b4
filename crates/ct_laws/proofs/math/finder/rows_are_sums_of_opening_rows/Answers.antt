use Rattle.ct_duals.specs.Dual.{degree_of}
use Rattle.ct_finder.specs.Column.{range_of, columns, opening}
use Rattle.ct_finder.proofs.TurnedTableaus.{kept-opening}
use Rattle.ct_finder.proofs.Ends.{kept-after}
use Rattle.ct_laws.proofs.math.finder.rows_are_sums_of_opening_rows.Goals as goal

pub returns : goal.returns
returns c = λ number e even pivots.
    (kept-after number (columns (range_of e even) (degree_of e)) (degree_of e) pivots (opening number (range_of e even) (degree_of e)) (kept-opening number (range_of e even) (degree_of e))).sums
