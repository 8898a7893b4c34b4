use Rattle.std.proofs.Common.{List, ◌++◌, ap, ap₂, sym, subst, ◌∙◌, arith}
use Rattle.std.specs.Prelude.{ℕ}
use Rattle.ct_partitions.specs.Product.{Factors, AreSound, class_products}
use Rattle.ct_partitions.specs.Inside.Pairs.{no_pair}
use Rattle.ct_partitions.proofs.ProductLemmas.{length-pairs_at, first_read, second_read, product_step, sound_more}
use Rattle.ct_partitions.proofs.listing.product_words.Goals as goal

pub append_pair-requires : goal.append_pair-requires
append_pair-requires c =
    let parts = c.args.parts.now in
    let pairs = c.args.pairs.now in
    let k = c.loop-x.x-index in
    let long = length-pairs_at parts pairs in
    let first = ap (λ p. p.entry.n)
    (first_read parts pairs k c.index-parts-x.result c.requires.places c.loop-x-test.true c.index-parts-x.is) in
    let second = ap (λ p. p.entry.n)
    (second_read parts pairs k c.index-parts-y.result c.requires.places c.loop-x-test.true c.index-parts-y.is) in
    let sum = c.requires.lengths k no_pair (omega arith) in
    let few = c.requires.length in
    omega arith

pub loop-x-preserved : goal.loop-x-preserved
loop-x-preserved c =
    let parts = c.args.parts.now in
    let pairs = c.args.pairs.now in
    let k = c.loop-x.x-index in
    let first = first_read parts pairs k c.index-parts-x.result c.requires.places c.loop-x-test.true c.index-parts-x.is in
    let second = second_read parts pairs k c.index-parts-y.result c.requires.places c.loop-x-test.true c.index-parts-y.is in
    record {
      words = c.in_ok-append_pair.ensures.words
          ∙ ap₂ (λ (a b : List ℕ). a ++ b) c.loop-x.invariant.words (λ i. class_products (second i).entry.n (first i).classes
          (second i).classes)
          ∙ sym (product_step parts pairs k c.loop-x-test.true);
      sound = sound_more parts pairs k c.loop-x-test.true c.loop-x.invariant.sound
          (subst (λ (p : Factors). AreSound p) (λ i. (first i, second i)) c.append_pair.ensures.sound);
    }
