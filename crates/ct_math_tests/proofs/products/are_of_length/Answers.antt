use Rattle.std.proofs.Common.{ℕ, ◌^◌, ◌<◌}
use Rattle.std.proofs.lemmas.List.Elements.{All-append}
use Rattle.ct_partitions.proofs.ClassLemmas.{lists_more}
use Rattle.ct_math_tests.proofs.products.are_of_length.Goals as goal

pub loop-class-preserved : goal.loop-class-preserved
loop-class-preserved c =
    let P = λ (x : ℕ). x < 2 ^ c.args.n in
    let class = rw c.deref.ensures.value at c.have_length.ensures c.if-not-have_length.false in
    rw (lists_more c.args.classes.now c.loop-class.class-index c.class-item.result c.loop-class-test.true) (All-append P _ _ c.loop-class.invariant (rw c.class-item.is at class))
