use Rattle.std.proofs.Common.{◌≡◌, map, drop}
use Rattle.std.specs.Prelude.{fold, min, slice_index_or}
use Rattle.ct_partitions.specs.Product.{weight_gap, pairs_at}
use Rattle.ct_partitions.specs.Inside.Pairs.{nearest_at, no_pair}
use Rattle.ct_partitions.proofs.product.nearest.Given as goal

-- with the later pairs that are left it is the number that is asked for
abbrev pub invariant-loop-later : goal.invariant-loop-later
invariant-loop-later l =
    fold min l.nearest (map (weight_gap (slice_index_or (pairs_at l.parts l.pairs) l.place no_pair)) (drop l.later
    (pairs_at l.parts l.pairs)))
    ≡ nearest_at (pairs_at l.parts l.pairs) l.place l.fn.least
