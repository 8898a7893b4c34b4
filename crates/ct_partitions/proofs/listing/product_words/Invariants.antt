use Rattle.std.proofs.Common.{◌≡◌, take, All}
use Rattle.ct_partitions.specs.Product.{product, pairs_at, AreSound}
use Rattle.ct_partitions.proofs.listing.product_words.Given as goal

abbrev pub invariant-loop-x : goal.invariant-loop-x
invariant-loop-x l = record {
  words : l.words.items ≡ product (pairs_at l.parts (take l.x-index l.pairs));
  sound : All AreSound (pairs_at l.parts (take l.x-index l.pairs));
}
