use Rattle.std.proofs.Common.{◌≤◌, List, sym, subst, arith}
use Rattle.std.specs.Prelude.{IsPermutation}
use Rattle.std.proofs.lemmas.Result.{IfOk-weaker}
use Rattle.ct_words.specs.Code.{CodeValue}
use Rattle.ct_words.proofs.EntryLemmas.{entry_limits}
use Rattle.ct_partitions.specs.Product.{Factors, product, product_distance, AreFactors}
use Rattle.ct_partition_files.specs.ProductKind.{factors_named}
use Rattle.ct_kind.proofs.CodeAt.{code_at_answer}
use Rattle.ct_partition_files.proofs.ProductKind.{right-product}
use Rattle.ct_partition_files.proofs.product_kind.code.Goals as goal

pub factors-requires-clause-there : goal.factors-requires-clause-there
factors-requires-clause-there g c =
    (right-product c.args.entry (g.P.Partitions.known c.args.pieces.now) c.args.pairs.now c.requires.some c.requires.weighted c.requires.faultless).checked.partitions

pub factors-requires-clause-few : goal.factors-requires-clause-few
factors-requires-clause-few g c = let few = c.requires.few in omega arith

pub listed-requires-clause-factors : goal.listed-requires-clause-factors
listed-requires-clause-factors g c =
    let right = right-product c.args.entry (g.P.Partitions.known c.args.pieces.now) c.args.pairs.now c.requires.some c.requires.weighted c.requires.faultless in
    subst (λ (fs : List Factors). AreFactors c.args.entry.n c.args.entry.w fs) (sym c.in_ok-named.ensures.factors) right.checked.factors

pub listed-requires-clause-length : goal.listed-requires-clause-length
listed-requires-clause-length g c = (entry_limits c.args.entry c.requires.entry).length_to

pub listed-requires-clause-some : goal.listed-requires-clause-some
listed-requires-clause-some g c = let far = (entry_limits c.args.entry c.requires.entry).distance_from in omega arith

pub listed-requires-clause-distance : goal.listed-requires-clause-distance
listed-requires-clause-distance g c =
    let right = right-product c.args.entry (g.P.Partitions.known c.args.pieces.now) c.args.pairs.now c.requires.some c.requires.weighted c.requires.faultless in
    subst (λ (fs : List Factors). c.args.entry.d ≤ product_distance fs) (sym c.in_ok-named.ensures.factors) right.checked.distance

pub returns : goal.returns
returns g c =
    let known = g.P.Partitions.known c.args.pieces.now in
    let answer = c.listed.result in
    let given = c.listed.ensures in
    code_at_answer c.args.entry (product (factors_named known c.args.pairs.now)) answer (IfOk-weaker answer _ _ (λ (code : CodeValue) h. h.0) given.entry)
    (IfOk-weaker answer _ _ (λ (code : CodeValue) h. h.1) given.entry) (IfOk-weaker answer _ _ (λ (code : CodeValue) h. h.2) given.entry)
    (IfOk-weaker answer _ _ (λ (code : CodeValue) h. subst (λ (fs : List Factors). IsPermutation (product fs) code.words) c.in_ok-named.ensures.factors h) given.words) given.sound

pub listed-requires-clause-places : goal.listed-requires-clause-places
listed-requires-clause-places g c = c.in_ok-named.ensures.places
