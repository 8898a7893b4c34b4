use Rattle.std.proofs.Common.{◌+◌, ap₂, sym, ◌∙◌, arith}
use Rattle.ct_partitions.specs.Inside.Pairs.{size_of_pair}
use Rattle.ct_partitions.proofs.ProductLemmas.{first_read, second_read, size_step}
use Rattle.ct_partitions.proofs.product.product_size.Goals as goal

pub loop-x-preserved : goal.loop-x-preserved
loop-x-preserved c =
    let parts = c.args.parts.now in
    let pairs = c.args.pairs.now in
    let k = c.loop-x.x-index in
    let first = first_read parts pairs k c.index-parts-x.result c.requires.places c.loop-x-test.true c.index-parts-x.is in
    let second = second_read parts pairs k c.index-parts-y.result c.requires.places c.loop-x-test.true c.index-parts-y.is in
    let size = c.pair_size-size.ensures.value ∙ ap₂ size_of_pair first second in
    let few = c.pair_size-size.ensures.small in
    let so_far = c.loop-x.invariant.small in
    record {
      sum = ap₂ (λ i j. i + j) c.loop-x.invariant.sum size ∙ sym (size_step parts pairs k c.loop-x-test.true);
      small = omega arith;
    }
