use Rattle.std.proofs.Common.{sym, ◌∙◌, ℕ, ap}
use Rattle.std.proofs.lemmas.List.{drop_all}
use Rattle.ct_partition_files.specs.ProductKind.{first_length, wrong_of_pair, wrong_of_pairs}
use Rattle.ct_partition_files.proofs.ProductKind.{wrong_found, wrong_next}
use Rattle.ct_partition_files.proofs.product_kind.wrong_id.Goals as goal

pub returns-in-Some : goal.returns-in-Some
returns-in-Some g c =
    let known = g.P.Partitions.known c.args.pieces.now in
    let p = c.pair-item.result in
    sym (wrong_found c.args.entry (first_length known c.args.pairs.now) known c.args.pairs.now c.loop-pair.pair-index p c.in-Some.id c.loop-pair.invariant c.loop-pair-test.true c.pair-item.is
    (ap (λ (long : ℕ). wrong_of_pair c.args.entry long known p) (sym c.first_length-long.ensures) ∙ sym c.wrong_of_pair.ensures ∙ c.in-Some.is))

pub loop-pair-preserved : goal.loop-pair-preserved
loop-pair-preserved g c =
    let known = g.P.Partitions.known c.args.pieces.now in
    let p = c.pair-item.result in
    wrong_next c.args.entry (first_length known c.args.pairs.now) known c.args.pairs.now c.loop-pair.pair-index p c.loop-pair.invariant c.loop-pair-test.true c.pair-item.is
    (ap (λ (long : ℕ). wrong_of_pair c.args.entry long known p) (sym c.first_length-long.ensures) ∙ sym c.wrong_of_pair.ensures ∙ c.in_default.is)

pub returns : goal.returns
returns g c =
    let known = g.P.Partitions.known c.args.pieces.now in
    let long = first_length known c.args.pairs.now in
    sym (c.loop-pair.invariant ∙ ap (wrong_of_pairs c.args.entry long known) (drop_all c.loop-pair.pair-index c.args.pairs.now c.loop-pair-test.false))
