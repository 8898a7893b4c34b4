use Rattle.std.proofs.Common.{◌≡◌, drop}
use Rattle.ct_partition_files.specs.ProductKind.{ids_of}
use Rattle.ct_kind.specs.Named.{first_missing}
use Rattle.ct_partition_files.proofs.product_kind.first_missing.Given as goal

abbrev pub invariant-loop-pair : goal.invariant-loop-pair
invariant-loop-pair g l = first_missing (g.P.Partitions.known l.fn.pieces) (ids_of l.pairs) ≡ first_missing (g.P.Partitions.known l.fn.pieces) (ids_of (drop l.pair-index l.pairs))
