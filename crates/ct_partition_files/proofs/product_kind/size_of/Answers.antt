use Rattle.std.proofs.Common.{ap, ◌∙◌}
use Rattle.ct_partitions.specs.Product.{product_size}
use Rattle.ct_partition_files.proofs.PlaceLemmas.{places-lent, pairs-lent}
use Rattle.ct_partition_files.proofs.product_kind.size_of.Goals as goal

pub product_size-requires-clause-places : goal.product_size-requires-clause-places
product_size-requires-clause-places c =
    let own = c.args.named.now in
    places-lent c.deref.result.now own.parts.items c.deref-2.result.now own.places.items c.deref.ensures.value
    c.deref-2.ensures.value c.requires.places

pub returns : goal.returns
returns c =
    let own = c.args.named.now in
    c.product_size.ensures
    ∙ ap product_size
    (pairs-lent c.deref.result.now own.parts.items c.deref-2.result.now own.places.items c.deref.ensures.value c.deref-2.ensures.value)
