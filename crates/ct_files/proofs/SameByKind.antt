-- What holds of evidence of every kind.
use Rattle.std.proofs.Common.{◌≡◌, ℕ, true, List, codes}
use Rattle.ct_rule_parts.specs.declared.support.Support.TheVariants as support
use Rattle.ct_kind.specs.declared.evidence.Evidence.{Evidence}
use Rattle.ct_kind.specs.declared.evidence.Evidence.TheVariants.{Words, Cosets, Partition, Build, Product, Dual, JohnsonDual, Odd, JohnsonLocal}
use Rattle.ct_kind.specs.Named.{NamedCode}
use Rattle.ct_files.specs.ByKind.{kind_of, names}
use Rattle.ct_kind.proofs.Stating.{SaysSame, IsAlike}
use Rattle.ct_word_files.proofs.WordsKind.{words_same}
use Rattle.ct_word_files.proofs.CosetsKind.{cosets_same}
use Rattle.ct_partition_files.proofs.PartitionKind.{partition_same}
use Rattle.ct_partition_files.proofs.ProductKind.{product_same}
use Rattle.ct_build_files.proofs.BuildKind.{build_same}
use Rattle.ct_dual_files.proofs.DualKind.{dual_same}

-- evidence says the same over codes that are the same for the ids that it names
pub kind_same : (evidence : Evidence) (left right : List NamedCode) → ((id : List ℕ) → names evidence id ≡ true → IsAlike id left right)
    → SaysSame (kind_of evidence) left right
kind_same (Words e words) left right same = words_same e words left right
kind_same (Cosets e basis representatives) left right same = cosets_same e basis representatives left right
kind_same (Partition e between classes) left right same = partition_same e between classes left right
kind_same (Product e pairs) left right same = product_same e pairs left right same
kind_same (Build e step part other) left right same = build_same e step part other left right same
kind_same (Dual d) left right same = dual_same support.Bound (codes "dual") d left right
kind_same (JohnsonDual d) left right same = dual_same support.Bound (codes "jdual") d left right
kind_same (Odd d m) left right same = dual_same (λ accepted. support.Odd accepted m) (codes "odd") d left right
kind_same (JohnsonLocal d) left right same = dual_same support.Local (codes "jlocal") d left right
