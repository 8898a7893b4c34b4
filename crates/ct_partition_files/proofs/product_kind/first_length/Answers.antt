use Rattle.std.proofs.Common.{◌≡◌, List, [], ◌∷◌, Option, Some, None, refl, sym, ap, ◌∙◌}
use Rattle.std.specs.List.{slice_get}
use Rattle.std.specs.Option.{unwrap_or}
use Rattle.ct_words.specs.declared.entry.Entry.{Entry}
use Rattle.ct_classes.specs.Partition.{PartitionValue}
use Rattle.ct_partitions.specs.Product.{no_partition}
use Rattle.ct_kind.specs.Named.{NamedCode}
use Rattle.ct_partition_files.specs.ProductKind.{Ids, factor_named, first_length}
use Rattle.ct_partition_files.proofs.product_kind.first_length.Goals as goal

-- the length is that of the first partition of the first pair, 0 where there is no pair
at_first : (known : List NamedCode) (pairs : List Ids) (p : Ids) → Some p ≡ slice_get pairs 0 → first_length known pairs ≡ (factor_named known p.0).entry.n
at_first known [] p is = absurd cc
at_first known (q ∷ ps) p is = let same : p ≡ q = cc in ap (λ (r : Ids). (factor_named known r.0).entry.n) (sym same)

at_none : (known : List NamedCode) (pairs : List Ids) → None ≡ slice_get pairs 0 → 0 ≡ first_length known pairs
at_none known [] is = refl
at_none known (q ∷ ps) is = absurd cc

pub returns-in_default : goal.returns-in_default
returns-in_default g c = at_none (g.P.Partitions.known c.args.pieces.now) c.args.pairs.now c.in_default.ensures.value

pub returns-in_default-partition : goal.returns-in_default-partition
returns-in_default-partition g c =
    ap (λ (o : Option PartitionValue). (unwrap_or o no_partition).entry.n) (sym c.in_default-partition.is ∙ c.partition.ensures)
    ∙ sym (at_first (g.P.Partitions.known c.args.pieces.now) c.args.pairs.now c.in-Some.field-0.now c.in-Some.ensures.value)

pub returns : goal.returns
returns g c =
    ap (λ (e : Entry). e.n) c.entry.ensures
    ∙ ap (λ (o : Option PartitionValue). (unwrap_or o no_partition).entry.n) (sym c.in-Some-partition.is ∙ c.partition.ensures)
    ∙ sym (at_first (g.P.Partitions.known c.args.pieces.now) c.args.pairs.now c.in-Some.field-0.now c.in-Some.ensures.value)
