use Rattle.std.proofs.Common.{◌≡◌, map}
use Rattle.std.specs.List.{range_with_len}
use Rattle.ct_finder.specs.Column.{columns, place_of_column}
use Rattle.ct_finder.specs.Column.Column.{S}
use Rattle.ct_finder.proofs.opening.opening_basics.Given as goal

-- the places so far
abbrev pub invariant-loop-before : goal.invariant-loop-before
invariant-loop-before l = l.basics.items ≡ map (λ k. place_of_column (S k) (columns l.range l.degree)) (range_with_len 1 l.before)
