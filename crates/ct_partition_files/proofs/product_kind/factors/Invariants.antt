use Rattle.std.proofs.Common.{◌≡◌, ◌*◌, length, take}
use Rattle.ct_partitions.specs.Product.{pairs_at, ArePairsOfPlaces}
use Rattle.ct_partition_files.specs.ProductKind.{factors_named}
use Rattle.ct_partition_files.proofs.product_kind.factors.Given as goal

abbrev pub invariant-loop-pair : goal.invariant-loop-pair
invariant-loop-pair g l = record {
  count : length l.parts.items ≡ 2 * l.pair-index;
  pairs : length l.places.items ≡ l.pair-index;
  places : ArePairsOfPlaces (length l.parts.items) l.places.items;
  factors : pairs_at l.parts.items l.places.items ≡ factors_named (g.P.Partitions.known l.fn.pieces) (take l.pair-index l.pairs);
}
