use Rattle.std.proofs.Common.{◌≡◌, ℕ, ◌^◌, ◌<◌, List, codes, IfOk, sym, subst}
use Rattle.std.specs.Prelude.{All}
use Rattle.std.proofs.lemmas.Result.{IfOk-weaker}
use Rattle.toml.specs.View.{table_view}
use Rattle.ct_words.proofs.EntryLemmas.{entry_limits}
use Rattle.ct_classes.specs.Partition.{words_of_classes}
use Rattle.ct_kind.specs.declared.evidence.Evidence.TheVariants.{Words, Cosets, Partition, Build, Product, Dual, JohnsonDual, Odd, JohnsonLocal}
use Rattle.ct_fields.specs.WrittenSchema.{written_table}
use Rattle.ct_word_files.specs.Words.{words_fields}
use Rattle.ct_word_files.specs.Cosets.{cosets_fields}
use Rattle.ct_partition_files.specs.ProductKind.{Ids}
use Rattle.ct_partition_files.specs.Partition.{partition_fields}
use Rattle.ct_partition_files.specs.Pairs.{AreIds}
use Rattle.ct_partition_files.specs.Product.{product_fields}
use Rattle.ct_files.specs.Inside.Written.{HasIds}
use Rattle.ct_files.proofs.AtEvidence.{sound-at, table-at, ids-at}
use Rattle.ct_files.proofs.Lengths.{IfOk-both}
use Rattle.ct_files.proofs.writing.evidence_table.Goals as goal

pub words_table-requires-clause-room : goal.words_table-requires-clause-room
words_table-requires-clause-room c =
    let sound = sound-at c.args.evidence.now (Words c.in-Words.entry c.in-Words.words) c.in-Words.is c.requires in
    (entry_limits c.in-Words.entry sound.0).length_to

pub cosets_table-requires-clause-room : goal.cosets_table-requires-clause-room
cosets_table-requires-clause-room c =
    let sound = sound-at c.args.evidence.now (Cosets c.in-Cosets.entry c.in-Cosets.basis c.in-Cosets.representatives) c.in-Cosets.is c.requires in
    (entry_limits c.in-Cosets.entry sound.0).length_to

pub partition_table-requires-clause-room : goal.partition_table-requires-clause-room
partition_table-requires-clause-room c =
    let sound = sound-at c.args.evidence.now (Partition c.in-Partition.entry c.in-Partition.between c.in-Partition.classes) c.in-Partition.is c.requires in
    (entry_limits c.in-Partition.entry sound.0).length_to

pub words_table-requires-clause-words : goal.words_table-requires-clause-words
words_table-requires-clause-words c =
    let sound = sound-at c.args.evidence.now (Words c.in-Words.entry c.in-Words.words) c.in-Words.is c.requires in
    subst (λ (xs : List ℕ). All (λ x. x < 2 ^ c.in-Words.entry.n) xs) (sym c.as_slice.ensures) sound.1

pub cosets_table-requires-clause-basis : goal.cosets_table-requires-clause-basis
cosets_table-requires-clause-basis c =
    let sound = sound-at c.args.evidence.now (Cosets c.in-Cosets.entry c.in-Cosets.basis c.in-Cosets.representatives) c.in-Cosets.is c.requires in
    subst (λ (xs : List ℕ). All (λ x. x < 2 ^ c.in-Cosets.entry.n) xs) (sym c.as_slice-in-Cosets.ensures) sound.2

pub cosets_table-requires-clause-representatives : goal.cosets_table-requires-clause-representatives
cosets_table-requires-clause-representatives c =
    let sound = sound-at c.args.evidence.now (Cosets c.in-Cosets.entry c.in-Cosets.basis c.in-Cosets.representatives) c.in-Cosets.is c.requires in
    subst (λ (xs : List ℕ). All (λ x. x < 2 ^ c.in-Cosets.entry.n) xs) (sym c.as_slice-in-Cosets-2.ensures) sound.3

pub partition_table-requires-clause-words : goal.partition_table-requires-clause-words
partition_table-requires-clause-words c =
    let sound = sound-at c.args.evidence.now (Partition c.in-Partition.entry c.in-Partition.between c.in-Partition.classes) c.in-Partition.is c.requires in
    subst (λ (cs : List (List ℕ)). All (λ x. x < 2 ^ c.in-Partition.entry.n) (words_of_classes cs)) (sym c.as_slice-in-Partition.ensures) sound.3

pub build_table-requires-clause-room : goal.build_table-requires-clause-room
build_table-requires-clause-room c =
    let sound = sound-at c.args.evidence.now (Build c.in-Build.entry c.in-Build.step c.in-Build.part c.in-Build.other) c.in-Build.is c.requires in
    (entry_limits c.in-Build.entry sound.0.entry).length_to

pub build_table-requires-clause-fits : goal.build_table-requires-clause-fits
build_table-requires-clause-fits c =
    let sound = sound-at c.args.evidence.now (Build c.in-Build.entry c.in-Build.step c.in-Build.part c.in-Build.other) c.in-Build.is c.requires in
    sound.0.fields

pub returns-in-Words-clause-table : goal.returns-in-Words-clause-table
returns-in-Words-clause-table c =
    table-at table_view c.args.evidence.now (Words c.in-Words.entry c.in-Words.words) c.words_table.result c.in-Words.is
    (subst (λ (xs : List ℕ). IfOk c.words_table.result (λ t. table_view t ≡ written_table (codes "words") (words_fields c.in-Words.entry xs))) c.as_slice.ensures
    c.words_table.ensures)

pub returns-in-Cosets-clause-table : goal.returns-in-Cosets-clause-table
returns-in-Cosets-clause-table c =
    let e = c.in-Cosets.entry in
    let basis = c.as_slice-in-Cosets.result.now in
    table-at table_view c.args.evidence.now (Cosets c.in-Cosets.entry c.in-Cosets.basis c.in-Cosets.representatives) c.cosets_table.result c.in-Cosets.is
    (subst (λ (xs : List ℕ). IfOk c.cosets_table.result (λ t. table_view t ≡ written_table (codes "cosets") (cosets_fields e xs c.in-Cosets.representatives)))
    c.as_slice-in-Cosets.ensures
    (subst (λ (xs : List ℕ). IfOk c.cosets_table.result (λ t. table_view t ≡ written_table (codes "cosets") (cosets_fields e basis xs))) c.as_slice-in-Cosets-2.ensures
    c.cosets_table.ensures))

pub returns-in-Partition-clause-table : goal.returns-in-Partition-clause-table
returns-in-Partition-clause-table c =
    let e = c.in-Partition.entry in
    let between = c.in-Partition.between in
    table-at table_view c.args.evidence.now (Partition e between c.in-Partition.classes) c.partition_table.result c.in-Partition.is
    (subst (λ (cs : List (List ℕ)). IfOk c.partition_table.result (λ t. table_view t ≡ written_table (codes "partition") (partition_fields e between cs)))
    c.as_slice-in-Partition.ensures c.partition_table.ensures)

pub returns-in-Product-clause-table : goal.returns-in-Product-clause-table
returns-in-Product-clause-table c =
    table-at table_view c.args.evidence.now (Product c.in-Product.entry c.in-Product.pairs) c.product_table.result c.in-Product.is
    (subst (λ (ps : List Ids). IfOk c.product_table.result (λ t. table_view t ≡ written_table (codes "product") (product_fields c.in-Product.entry ps))) c.as_slice-in-Product.ensures
    c.product_table.ensures.table)

pub returns-in-Product-clause-ids : goal.returns-in-Product-clause-ids
returns-in-Product-clause-ids c =
    IfOk-weaker c.product_table.result _ _ (λ t ids. subst HasIds (sym c.in-Product.is) (subst (All AreIds) c.as_slice-in-Product.ensures ids))
    c.product_table.ensures.ids

pub returns-in-Build-clause-table : goal.returns-in-Build-clause-table
returns-in-Build-clause-table c =
    table-at table_view c.args.evidence.now (Build c.in-Build.entry c.in-Build.step c.in-Build.part c.in-Build.other) c.build_table.result c.in-Build.is
    c.build_table.ensures.table

pub returns-in-Build-clause-ids : goal.returns-in-Build-clause-ids
returns-in-Build-clause-ids c =
    IfOk-both c.build_table.result _ _ _ (λ t part other. subst HasIds (sym c.in-Build.is) (part, other)) c.build_table.ensures.part
    c.build_table.ensures.other

pub returns-in-Dual-clause-table : goal.returns-in-Dual-clause-table
returns-in-Dual-clause-table c =
    table-at table_view c.args.evidence.now (Dual c.in-Dual.dual) c.dual_table.result c.in-Dual.is c.dual_table.ensures

pub returns-in-JohnsonDual-clause-table : goal.returns-in-JohnsonDual-clause-table
returns-in-JohnsonDual-clause-table c =
    table-at table_view c.args.evidence.now (JohnsonDual c.in-JohnsonDual.dual) c.johnson_dual_table.result c.in-JohnsonDual.is c.johnson_dual_table.ensures

pub returns-in-Odd-clause-table : goal.returns-in-Odd-clause-table
returns-in-Odd-clause-table c =
    table-at table_view c.args.evidence.now (Odd c.in-Odd.dual c.in-Odd.m) c.odd_table.result c.in-Odd.is c.odd_table.ensures

pub returns-in-JohnsonLocal-clause-table : goal.returns-in-JohnsonLocal-clause-table
returns-in-JohnsonLocal-clause-table c =
    table-at table_view c.args.evidence.now (JohnsonLocal c.in-JohnsonLocal.dual) c.local_dual_table.result c.in-JohnsonLocal.is c.local_dual_table.ensures

pub returns-in-Words-clause-ids : goal.returns-in-Words-clause-ids
returns-in-Words-clause-ids c =
    ids-at c.args.evidence.now (Words c.in-Words.entry c.in-Words.words) c.words_table.result c.in-Words.is tt

pub returns-in-Cosets-clause-ids : goal.returns-in-Cosets-clause-ids
returns-in-Cosets-clause-ids c =
    ids-at c.args.evidence.now (Cosets c.in-Cosets.entry c.in-Cosets.basis c.in-Cosets.representatives) c.cosets_table.result c.in-Cosets.is tt

pub returns-in-Partition-clause-ids : goal.returns-in-Partition-clause-ids
returns-in-Partition-clause-ids c =
    ids-at c.args.evidence.now (Partition c.in-Partition.entry c.in-Partition.between c.in-Partition.classes) c.partition_table.result c.in-Partition.is tt

pub returns-in-Dual-clause-ids : goal.returns-in-Dual-clause-ids
returns-in-Dual-clause-ids c =
    ids-at c.args.evidence.now (Dual c.in-Dual.dual) c.dual_table.result c.in-Dual.is tt

pub returns-in-JohnsonDual-clause-ids : goal.returns-in-JohnsonDual-clause-ids
returns-in-JohnsonDual-clause-ids c =
    ids-at c.args.evidence.now (JohnsonDual c.in-JohnsonDual.dual) c.johnson_dual_table.result c.in-JohnsonDual.is tt

pub returns-in-Odd-clause-ids : goal.returns-in-Odd-clause-ids
returns-in-Odd-clause-ids c =
    ids-at c.args.evidence.now (Odd c.in-Odd.dual c.in-Odd.m) c.odd_table.result c.in-Odd.is tt

pub returns-in-JohnsonLocal-clause-ids : goal.returns-in-JohnsonLocal-clause-ids
returns-in-JohnsonLocal-clause-ids c =
    ids-at c.args.evidence.now (JohnsonLocal c.in-JohnsonLocal.dual) c.local_dual_table.result c.in-JohnsonLocal.is tt
