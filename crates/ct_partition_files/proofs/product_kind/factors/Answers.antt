use Rattle.std.proofs.Common.{length, take_all, sym, ap, subst, ◌∙◌, arith}
use Rattle.std.specs.Prelude.{IsSome}
use Rattle.std.proofs.lemmas.Result.{IfOk-from_err}
use Rattle.ct_kind.specs.Named.{partition_named}
use Rattle.ct_partition_files.specs.ProductKind.{Ids, factors_named}
use Rattle.ct_partition_files.proofs.PlaceLemmas.{at_end}
use Rattle.ct_partition_files.proofs.ProductKind.{AreListed, listed-step}
use Rattle.ct_partition_files.proofs.product_kind.factors.Goals as goal

pub put_pair-requires : goal.put_pair-requires
put_pair-requires g c =
    let few = c.requires.few in
    let count = c.loop-pair.invariant.count in
    let inside = c.loop-pair-test.true in
    record { few = omega arith }

pub loop-pair-preserved : goal.loop-pair-preserved
loop-pair-preserved g c =
    let inv = c.loop-pair.invariant in
    let known = g.P.Partitions.known c.args.pieces.now in
    let pairs = c.args.pairs.now in
    let k = c.loop-pair.pair-index in
    let old : AreListed known pairs k c.loop-pair.parts.items c.loop-pair.places.items = record { count = inv.count; listed = inv.pairs; within = inv.places; factors = inv.factors } in
    let next = listed-step known pairs k c.loop-pair.parts.items _ c.loop-pair.places.items _ c.in_ok-x.x c.in_ok-y.y c.pair-item.result old c.loop-pair-test.true c.pair-item.is
    c.in_ok-x.ensures c.in_ok-y.ensures c.in_ok-put_pair.ensures.parts c.in_ok-put_pair.ensures.places in
    record { count = next.count; pairs = next.listed; places = next.within; factors = next.factors }

pub returns-clause-factors : goal.returns-clause-factors
returns-clause-factors g c =
    c.loop-pair.invariant.factors
    ∙ ap (factors_named (g.P.Partitions.known c.args.pieces.now)) (take_all c.loop-pair.pair-index c.args.pairs.now c.loop-pair-test.false)

pub factor-requires : goal.factor-requires
factor-requires g c =
    let known = g.P.Partitions.known c.args.pieces.now in
    let there = (c.requires.there c.loop-pair.pair-index c.pair-item.result c.loop-pair-test.true).0 in
    record { there = subst (λ (p : Ids). IsSome (partition_named p.0 known)) (sym c.pair-item.is) there }

pub factor-requires-in-loop-pair : goal.factor-requires-in-loop-pair
factor-requires-in-loop-pair g c =
    let known = g.P.Partitions.known c.args.pieces.now in
    let there = (c.requires.there c.loop-pair.pair-index c.pair-item.result c.loop-pair-test.true).1 in
    record { there = subst (λ (p : Ids). IsSome (partition_named p.1 known)) (sym c.pair-item.is) there }

pub returns-clause-places : goal.returns-clause-places
returns-clause-places g c = c.loop-pair.invariant.places

pub returns-clause-count : goal.returns-clause-count
returns-clause-count g c =
    c.loop-pair.invariant.pairs ∙ at_end (length c.args.pairs.now) c.loop-pair.pair-index c.loop-pair.auto.pair-index-end c.loop-pair-test.false

pub returns-in_err-y-clause-places : goal.returns-in_err-y-clause-places
returns-in_err-y-clause-places g c = IfOk-from_err c.from_residual-in_err-y.result _ c.from_residual-in_err-y.ensures.0

pub returns-in_err-y-clause-count : goal.returns-in_err-y-clause-count
returns-in_err-y-clause-count g c = IfOk-from_err c.from_residual-in_err-y.result _ c.from_residual-in_err-y.ensures.0

pub returns-in_err-y-clause-factors : goal.returns-in_err-y-clause-factors
returns-in_err-y-clause-factors g c = IfOk-from_err c.from_residual-in_err-y.result _ c.from_residual-in_err-y.ensures.0

pub returns-in_err-put_pair-clause-places : goal.returns-in_err-put_pair-clause-places
returns-in_err-put_pair-clause-places g c = IfOk-from_err c.from_residual-in_err-put_pair.result _ c.from_residual-in_err-put_pair.ensures.0

pub returns-in_err-put_pair-clause-count : goal.returns-in_err-put_pair-clause-count
returns-in_err-put_pair-clause-count g c = IfOk-from_err c.from_residual-in_err-put_pair.result _ c.from_residual-in_err-put_pair.ensures.0

pub returns-in_err-put_pair-clause-factors : goal.returns-in_err-put_pair-clause-factors
returns-in_err-put_pair-clause-factors g c = IfOk-from_err c.from_residual-in_err-put_pair.result _ c.from_residual-in_err-put_pair.ensures.0
