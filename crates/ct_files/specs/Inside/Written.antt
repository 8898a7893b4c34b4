-- What is written for an evidence.
use Rattle.std.specs.Prelude.{All, List, Option, IfSome, IsTrue, ⊤}
use Rattle.toml.specs.Data.{Data, Members}
use Rattle.ct_names.specs.Id.{is_id}
use Rattle.ct_fields.specs.WrittenSchema.{written_table}
use Rattle.ct_fields.specs.declared.field.FieldName.{FieldName}
use Rattle.ct_kind.specs.declared.evidence.Evidence.{Evidence}
use Rattle.ct_kind.specs.declared.evidence.Evidence.TheVariants as evidence
use Rattle.ct_word_files.specs.Words.{words_fields}
use Rattle.ct_word_files.specs.Cosets.{cosets_fields}
use Rattle.ct_partition_files.specs.Partition.{partition_fields}
use Rattle.ct_partition_files.specs.Pairs.{AreIds}
use Rattle.ct_partition_files.specs.Product.{product_fields}
use Rattle.ct_build_files.specs.WrittenBuild.{build_fields}
use Rattle.ct_dual_files.specs.Dual.{dual_fields, johnson_dual_fields, odd_fields, local_dual_fields}
use Rattle.ct_files.specs.Kinds.{kind_of, kind_text}

-- what is written at the fields of a document of the evidence
abbrev pub fields_of : Evidence → List (FieldName × Option Data)
fields_of (evidence.Words e words) = words_fields e words
fields_of (evidence.Cosets e basis representatives) = cosets_fields e basis representatives
fields_of (evidence.Partition e between classes) = partition_fields e between classes
fields_of (evidence.Product e pairs) = product_fields e pairs
fields_of (evidence.Build e step part other) = build_fields e step part other
fields_of (evidence.Dual d) = dual_fields d
fields_of (evidence.JohnsonDual d) = johnson_dual_fields d
fields_of (evidence.Odd d m) = odd_fields d m
fields_of (evidence.JohnsonLocal d) = local_dual_fields d

-- the table of an evidence: its keys ascend
abbrev pub evidence_table : Evidence → Members
evidence_table e = written_table (kind_text (kind_of e)) (fields_of e)

-- the names of pieces in an evidence are ids
abbrev pub HasIds : Evidence → Type 0
HasIds (evidence.Build e step part other) = IsTrue (is_id part) × IfSome other (λ id. IsTrue (is_id id))
HasIds (evidence.Product e pairs) = All AreIds pairs
HasIds e = ⊤
