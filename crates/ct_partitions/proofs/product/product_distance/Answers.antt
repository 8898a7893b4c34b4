use Rattle.std.proofs.Common.{◌+◌, drop, ap, ap₂, sym, ◌∙◌, arith}
use Rattle.std.specs.Prelude.{fold, min}
use Rattle.ct_partitions.specs.Product.{distances, pair_distance, pairs_at}
use Rattle.ct_partitions.proofs.ProductLemmas.{length-pairs_at, first_read, second_read, distances_start, distances_step, distances_end}
use Rattle.ct_partitions.proofs.product.product_distance.Goals as goal

pub loop-place-init : goal.loop-place-init
loop-place-init c =
    let parts = c.args.parts.now in
    let pairs = c.args.pairs.now in
    let long = length-pairs_at parts pairs in
    let first = first_read parts pairs 0 c.index-parts-x.result c.requires.places c.requires.some c.index-parts-x.is in
    let second = second_read parts pairs 0 c.index-parts-y.result c.requires.places c.requires.some c.index-parts-y.is in
    let near = c.pair_distance-least.ensures ∙ ap₂ (λ a b. pair_distance (a, b)) first second in
    ap (λ v. fold min v (distances (pairs_at parts pairs))) near ∙ distances_start (pairs_at parts pairs) (omega arith)

pub loop-place-preserved : goal.loop-place-preserved
loop-place-preserved c =
    let parts = c.args.parts.now in
    let pairs = c.args.pairs.now in
    let place = c.loop-place.place in
    let long = length-pairs_at parts pairs in
    ap (λ v. fold min v (distances (drop (place + 1) (pairs_at parts pairs)))) c.nearest-least.ensures
    ∙ sym (distances_step (pairs_at parts pairs) place c.loop-place.least (omega arith)) ∙ c.loop-place.invariant

pub returns : goal.returns
returns c =
    let parts = c.args.parts.now in
    let pairs = c.args.pairs.now in
    let long = length-pairs_at parts pairs in
    sym (distances_end (pairs_at parts pairs) c.loop-place.place c.loop-place.least (omega arith)) ∙ c.loop-place.invariant
