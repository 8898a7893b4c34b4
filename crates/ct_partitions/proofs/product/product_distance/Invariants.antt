use Rattle.std.proofs.Common.{◌≡◌, drop}
use Rattle.std.specs.Prelude.{fold, min}
use Rattle.ct_partitions.specs.Product.{distances, product_distance, pairs_at}
use Rattle.ct_partitions.proofs.product.product_distance.Given as goal

-- with the distances of the pairs that are left it is the distance of the product
abbrev pub invariant-loop-place : goal.invariant-loop-place
invariant-loop-place l = fold min l.least (distances (drop l.place (pairs_at l.parts l.pairs))) ≡ product_distance
    (pairs_at l.parts l.pairs)
