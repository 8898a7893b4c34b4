use Rattle.std.proofs.Common.{List, sym, ap, ◌∙◌}
use Rattle.std.proofs.lemmas.List.{drop_all}
use Rattle.ct_kind.specs.Named.{first_missing}
use Rattle.ct_partition_files.specs.ProductKind.{Ids, ids_of}
use Rattle.ct_partition_files.proofs.ProductKind.{missing_found, missing_next}
use Rattle.ct_partition_files.proofs.product_kind.first_missing.Goals as goal

pub returns-in-Some : goal.returns-in-Some
returns-in-Some g c =
    sym (missing_found (g.P.Partitions.known c.args.pieces.now) c.args.pairs.now c.loop-pair.pair-index c.pair-item.result c.in-Some.id c.loop-pair.invariant c.loop-pair-test.true c.pair-item.is
    (sym c.missing_of_pair.ensures ∙ c.in-Some.is))

pub loop-pair-preserved : goal.loop-pair-preserved
loop-pair-preserved g c =
    missing_next (g.P.Partitions.known c.args.pieces.now) c.args.pairs.now c.loop-pair.pair-index c.pair-item.result c.loop-pair.invariant c.loop-pair-test.true c.pair-item.is
    (sym c.missing_of_pair.ensures ∙ c.in_default.is)

pub returns : goal.returns
returns g c =
    let known = g.P.Partitions.known c.args.pieces.now in
    sym (c.loop-pair.invariant
    ∙ ap (λ (ps : List Ids). first_missing known (ids_of ps)) (drop_all c.loop-pair.pair-index c.args.pairs.now c.loop-pair-test.false))
