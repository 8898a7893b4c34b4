use Rattle.std.proofs.Common.{◌≡◌, drop}
use Rattle.ct_partition_files.specs.ProductKind.{first_length, wrong_of_pairs}
use Rattle.ct_partition_files.proofs.product_kind.wrong_id.Given as goal

abbrev pub invariant-loop-pair : goal.invariant-loop-pair
invariant-loop-pair g l =
    wrong_of_pairs l.fn.entry (first_length (g.P.Partitions.known l.fn.pieces) l.pairs) (g.P.Partitions.known l.fn.pieces) l.pairs
    ≡ wrong_of_pairs l.fn.entry (first_length (g.P.Partitions.known l.fn.pieces) l.pairs) (g.P.Partitions.known l.fn.pieces) (drop l.pair-index l.pairs)
