use Rattle.std.proofs.Common.{length, ap, sym, subst, arith}
use Rattle.ct_words.specs.Code.{IsCode}
use Rattle.ct_words.proofs.Constructions.SortedCodes.{sound_from_sort}
use Rattle.ct_partitions.specs.Product.{pairs_at}
use Rattle.ct_partitions.proofs.ProductCodes.{IsCode-product}
use Rattle.ct_partitions.proofs.ProductLemmas.{some_of_product, limits_of_product}
use Rattle.ct_partitions.proofs.listing.product_list.Goals as goal

pub from_sorted-requires : goal.from_sorted-requires
from_sorted-requires c =
    let n = c.args.entry.n in
    let d = c.args.entry.d in
    let w = c.args.entry.w in
    let pairs = pairs_at c.args.parts.now c.args.pairs.now in
    let sound = c.in_ok-words.ensures.sound in
    let words_are = c.in_ok-words.ensures.words in
    let limits = limits_of_product n w pairs c.requires.factors sound in
    let long = limits.0 in
    let near = limits.1 in
    let nearer = c.requires.distance in
    let code = IsCode-product n d w pairs c.requires.factors
    (λ i z within. record {
      first = (sound i z within).0.partition;
      second =
          (sound i z within).1.partition;
    }) c.requires.some c.requires.distance in
    let words = some_of_product pairs c.requires.factors.some sound in
    let count = ap length words_are in
    record {
      code = sound_from_sort n d w c.in_ok-words.words.items c.sort_unstable.new.self.items (long, c.requires.length)
          (c.requires.some, omega arith)
          (omega arith) (subst (IsCode n d w) (sym words_are) code) c.sort_unstable.ensures.permutation c.sort_unstable.ensures.sorted;
    }
