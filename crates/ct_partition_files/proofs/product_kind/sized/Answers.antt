use Rattle.std.proofs.Common.{ℕ, ◌≤◌, ap, subst, ◌∙◌}
use Rattle.ct_partitions.specs.Product.{product_distance}
use Rattle.ct_partition_files.proofs.PlaceLemmas.{places-lent, pairs-lent}
use Rattle.ct_partition_files.proofs.product_kind.sized.Goals as goal

pub product_distance-have-requires-clause-places : goal.product_distance-have-requires-clause-places
product_distance-have-requires-clause-places c =
    let own = c.args.named.now in
    places-lent c.deref.result.now own.parts.items c.deref-2.result.now own.places.items c.deref.ensures.value
    c.deref-2.ensures.value c.requires.places

pub size_of-requires-clause-places : goal.size_of-requires-clause-places
size_of-requires-clause-places c = c.requires.places

pub size_of-requires-clause-small : goal.size_of-requires-clause-small
size_of-requires-clause-small c =
    let own = c.args.named.now in
    let have = c.product_distance-have.ensures ∙ ap product_distance
    (pairs-lent c.deref.result.now own.parts.items c.deref-2.result.now own.places.items c.deref.ensures.value c.deref-2.ensures.value) in
    c.requires.small (subst (λ (distance : ℕ). c.args.entry.d ≤ distance) have c.if-have-entry.false)
