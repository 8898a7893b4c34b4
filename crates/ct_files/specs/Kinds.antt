-- The kinds of evidence documents: how a document names each, and what documents of the kind read as.
use Rattle.std.specs.Prelude.{ℕ, if◌then◌else◌, List, [], Result, Ok, Err, codes}
use Rattle.toml.specs.Data.{Data}
use Rattle.ct_fields.specs.Fields.{is_of_kind}
use Rattle.ct_fields.specs.Schema.{Schema, read_by}
use Rattle.ct_fields.specs.declared.fault.DocumentFault.{DocumentFault}
use Rattle.ct_fields.specs.declared.fault.DocumentFault.TheVariants as fault
use Rattle.ct_kind.specs.declared.evidence.Evidence.{Evidence}
use Rattle.ct_kind.specs.declared.evidence.Evidence.TheVariants as evidence
use Rattle.ct_word_files.specs.Words.{words_schema}
use Rattle.ct_word_files.specs.Cosets.{cosets_schema}
use Rattle.ct_partition_files.specs.Partition.{partition_schema}
use Rattle.ct_partition_files.specs.Product.{product_schema}
use Rattle.ct_build_files.specs.BuildSchema.{build_schema}
use Rattle.ct_dual_files.specs.Dual.{dual_schema, johnson_dual_schema, odd_schema, local_dual_schema}
use Rattle.ct_files.specs.declared.kind.Kind.{Kind}
use Rattle.ct_files.specs.declared.kind.Kind.TheVariants.{Words, Cosets, Partition, Build, Product, Dual, JohnsonDual, Odd, JohnsonLocal}

-- the kind of an evidence
abbrev pub kind_of : Evidence → Kind
kind_of (evidence.Words _ _) = Words
kind_of (evidence.Cosets _ _ _) = Cosets
kind_of (evidence.Partition _ _ _) = Partition
kind_of (evidence.Build _ _ _ _) = Build
kind_of (evidence.Product _ _) = Product
kind_of (evidence.Dual _) = Dual
kind_of (evidence.JohnsonDual _) = JohnsonDual
kind_of (evidence.Odd _ _) = Odd
kind_of (evidence.JohnsonLocal _) = JohnsonLocal

-- the text that a document of the kind has at the key `kind`
abbrev pub kind_text : Kind → List ℕ
kind_text Words = codes "words"
kind_text Cosets = codes "cosets"
kind_text Partition = codes "partition"
kind_text Build = codes "build"
kind_text Product = codes "product"
kind_text Dual = codes "dual"
kind_text JohnsonDual = codes "jdual"
kind_text Odd = codes "odd"
kind_text JohnsonLocal = codes "jlocal"

-- the kind that a document names
abbrev pub kind_in : Data → Result Kind DocumentFault
kind_in document =
    if is_of_kind (codes "words") document then Ok Words
    else if is_of_kind (codes "cosets") document then Ok Cosets
    else if is_of_kind (codes "partition") document then Ok Partition
    else if is_of_kind (codes "build") document then Ok Build
    else if is_of_kind (codes "product") document then Ok Product
    else if is_of_kind (codes "dual") document then Ok Dual
    else if is_of_kind (codes "jdual") document then Ok JohnsonDual
    else if is_of_kind (codes "odd") document then Ok Odd
    else if is_of_kind (codes "jlocal") document then Ok JohnsonLocal
    else Err fault.Kind

-- the fields of a document of the kind, and what they state
abbrev pub schema_of : Kind → Schema Evidence
schema_of Words = words_schema
schema_of Cosets = cosets_schema
schema_of Partition = partition_schema
schema_of Build = build_schema
schema_of Product = product_schema
schema_of Dual = dual_schema
schema_of JohnsonDual = johnson_dual_schema
schema_of Odd = odd_schema
schema_of JohnsonLocal = local_dual_schema

-- the evidence of a document of the kind, or the first fault of its fields
abbrev pub evidence_by : Kind → Data → Result Evidence DocumentFault
evidence_by kind document = read_by [] (schema_of kind) document
