use Rattle.std.proofs.Common.{◌≡◌, ◌*◌, ◌^◌, ◌≤◌, take}
use Rattle.ct_partitions.specs.Product.{product_size, pairs_at}
use Rattle.ct_partitions.proofs.product.product_size.Given as goal

abbrev pub invariant-loop-x : goal.invariant-loop-x
invariant-loop-x l = record {
  sum : l.size ≡ product_size (pairs_at l.parts (take l.x-index l.pairs));
  small : l.size ≤ 2 ^ 28 * l.x-index;
}
