use Rattle.ct_finder.specs.Sum.{opening_row}
use Rattle.std.proofs.Common.{◌≡◌, map}
use Rattle.std.specs.List.{range_with_len}
use Rattle.ct_finder.specs.Column.{columns}
use Rattle.ct_finder.proofs.opening.opening_rows.Given as goal

-- the rows so far
abbrev pub invariant-loop-before : goal.invariant-loop-before
invariant-loop-before g l =
    l.rows.items
    ≡ map (opening_row (g.S.Scheme.number l.scheme) (columns l.range (g.S.Scheme.degree l.scheme))) (range_with_len 1 l.before)
