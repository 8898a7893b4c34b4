use Rattle.std.proofs.Common.{List, IfOk, ◌≤◌, sym, subst}
use Rattle.std.specs.Prelude.{IsPermutation}
use Rattle.ct_partitions.specs.Product.{Factors, AreFactors, product, product_distance}
use Rattle.ct_partition_files.proofs.PlaceLemmas.{places-lent, pairs-lent}
use Rattle.ct_partition_files.proofs.product_kind.listed.Goals as goal

pub product_list-requires-clause-places : goal.product_list-requires-clause-places
product_list-requires-clause-places c =
    let own = c.args.named.now in
    places-lent c.deref.result.now own.parts.items c.deref-2.result.now own.places.items c.deref.ensures.value
    c.deref-2.ensures.value c.requires.places

pub product_list-requires-clause-factors : goal.product_list-requires-clause-factors
product_list-requires-clause-factors c =
    let own = c.args.named.now in
    let same =
    pairs-lent c.deref.result.now own.parts.items c.deref-2.result.now own.places.items c.deref.ensures.value c.deref-2.ensures.value in
    subst (λ (fs : List Factors). AreFactors c.args.entry.n c.args.entry.w fs) (sym same) c.requires.factors

pub product_list-requires-clause-distance : goal.product_list-requires-clause-distance
product_list-requires-clause-distance c =
    let own = c.args.named.now in
    let same =
    pairs-lent c.deref.result.now own.parts.items c.deref-2.result.now own.places.items c.deref.ensures.value c.deref-2.ensures.value in
    subst (λ (fs : List Factors). c.args.entry.d ≤ product_distance fs) (sym same) c.requires.distance

pub returns-clause-words : goal.returns-clause-words
returns-clause-words c =
    let own = c.args.named.now in
    let same =
    pairs-lent c.deref.result.now own.parts.items c.deref-2.result.now own.places.items c.deref.ensures.value c.deref-2.ensures.value in
    subst (λ (fs : List Factors). IfOk c.product_list.result (λ code. IsPermutation (product fs) code.words)) same c.product_list.ensures.words
