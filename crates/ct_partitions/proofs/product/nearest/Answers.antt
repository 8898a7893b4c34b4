use Rattle.std.proofs.Common.{◌+◌, get_or, map, drop, ap, ap₂, sym, ◌∙◌, arith}
use Rattle.std.specs.Prelude.{fold, min}
use Rattle.ct_partitions.specs.Product.{weight_gap, pair_distance, pairs_at}
use Rattle.ct_partitions.specs.Inside.Pairs.{no_pair, weights_apart}
use Rattle.ct_partitions.proofs.ProductLemmas.{length-pairs_at, first_read, second_read, gaps_step, gaps_end}
use Rattle.ct_partitions.proofs.product.nearest.Goals as goal

pub loop-later-init : goal.loop-later-init
loop-later-init c =
    let parts = c.args.parts.now in
    let pairs = c.args.pairs.now in
    let place = c.args.place in
    let first = first_read parts pairs place c.index-parts-x.result c.requires.places c.requires.place c.index-parts-x.is in
    let second = second_read parts pairs place c.index-parts-y.result c.requires.places c.requires.place c.index-parts-y.is in
    let near = c.min-nearest.ensures ∙ ap (min c.args.least) (c.pair_distance.ensures ∙ ap₂ (λ a b. pair_distance (a, b)) first second) in
    ap (λ v. fold min v (map (weight_gap (get_or (pairs_at parts pairs) place no_pair)) (drop (place + 1) (pairs_at parts pairs)))) near

pub loop-later-preserved : goal.loop-later-preserved
loop-later-preserved c =
    let parts = c.args.parts.now in
    let pairs = c.args.pairs.now in
    let place = c.args.place in
    let later = c.loop-later.later in
    let p = get_or (pairs_at parts pairs) place no_pair in
    let long = length-pairs_at parts pairs in
    let first = first_read parts pairs place c.index-parts-x.result c.requires.places c.requires.place c.index-parts-x.is in
    let other = first_read parts pairs later c.index-parts-other.result c.requires.places c.loop-later-test.true c.index-parts-other.is in
    let near = c.min-nearest-in-loop-later.ensures ∙ ap (min c.loop-later.nearest) (c.weight_gap.ensures ∙ ap₂ weights_apart first other) in
    ap (λ v. fold min v (map (weight_gap p) (drop (later + 1) (pairs_at parts pairs)))) near
    ∙ sym (gaps_step p (pairs_at parts pairs) later c.loop-later.nearest (omega arith)) ∙ c.loop-later.invariant

pub returns : goal.returns
returns c =
    let parts = c.args.parts.now in
    let pairs = c.args.pairs.now in
    let p = get_or (pairs_at parts pairs) c.args.place no_pair in
    let long = length-pairs_at parts pairs in
    sym (gaps_end p (pairs_at parts pairs) c.loop-later.later c.loop-later.nearest (omega arith)) ∙ c.loop-later.invariant
