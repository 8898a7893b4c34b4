-- The texts of refused submissions have no line feed, where the ids that they tell are ids.
use Rattle.std.proofs.Common.{IsTrue, refl}
use Rattle.std.specs.Prelude.{⊤, codes}
use Rattle.ct_names.specs.Id.{is_id}
use Rattle.ct_words.specs.declared.fault.CodeFault.{CodeFault}
use Rattle.ct_words.specs.declared.fault.CodeFault.TheVariants as code
use Rattle.ct_classes.specs.declared.fault.PartitionFault.{PartitionFault}
use Rattle.ct_classes.specs.declared.fault.PartitionFault.TheVariants as partition
use Rattle.ct_build.specs.declared.fault.BuildFault.{BuildFault}
use Rattle.ct_build.specs.declared.fault.BuildFault.TheVariants as build
use Rattle.ct_duals.specs.declared.fault.DualFault.{DualFault}
use Rattle.ct_duals.specs.declared.fault.DualFault.TheVariants as dual
use Rattle.ct_fields.specs.Field.{field_text}
use Rattle.ct_fields.specs.declared.field.FieldName.{FieldName}
use Rattle.ct_fields.specs.declared.field.FieldName.TheVariants.{Format, N, D, W, Words, Basis, Representatives, D1, Classes, Op, Places, Digits, By, Size, Part, Other, Pairs, Even, M, C, Y, Cites}
use Rattle.ct_fields.specs.declared.fault.DocumentFault.{DocumentFault}
use Rattle.ct_fields.specs.declared.fault.DocumentFault.TheVariants as file
use Rattle.ct_word_files.specs.WordFaultText.{code_fault_text}
use Rattle.ct_partition_files.specs.PartitionFaultText.{partition_fault_text}
use Rattle.ct_build_files.specs.BuildFaultText.{build_fault_text}
use Rattle.ct_dual_files.specs.DualFaultText.{dual_fault_text}
use Rattle.ct_kind.specs.declared.fault.SubmitFault.{SubmitFault}
use Rattle.ct_kind.specs.declared.fault.SubmitFault.TheVariants as submit
use Rattle.ct_files.specs.Refusal.{file_fault_text, submit_fault_text}
use Rattle.ct_files.proofs.UnbrokenTexts.{IsUnbroken, nothing, literal, joined, and_number, and_integer, of_id}

of_code_fault : (f : CodeFault) → IsUnbroken (code_fault_text f)
of_code_fault (code.Size c) = and_number c (literal (codes "size") refl)
of_code_fault (code.Weight i) = and_number i (literal (codes "weight") refl)
of_code_fault (code.Repeated i j) = and_number j (and_number i (literal (codes "repeated") refl))
of_code_fault (code.Close i j t) = and_number t (and_number j (and_number i (literal (codes "close") refl)))
of_code_fault (code.Work v) = and_number v (literal (codes "work") refl)
of_code_fault code.Memory = nothing

of_partition_fault : (f : PartitionFault) → IsUnbroken (partition_fault_text f)
of_partition_fault (partition.Size c) = and_number c (literal (codes "size") refl)
of_partition_fault (partition.Weight i) = and_number i (literal (codes "weight") refl)
of_partition_fault (partition.Repeated i j) = and_number j (and_number i (literal (codes "repeated") refl))
of_partition_fault (partition.Close i j t a b need) =
    let places = and_number t (and_number j (and_number i (literal (codes "close") refl))) in
    let classes = and_number b (and_number a (joined places (literal (codes " classes") refl))) in
    and_number need (joined classes (literal (codes " need") refl))
of_partition_fault partition.Memory = nothing

of_build_fault : (f : BuildFault) → IsUnbroken (build_fault_text f)
of_build_fault (build.WrongPart i) = nothing
of_build_fault (build.Short have want) = and_number want (and_number have (literal (codes "short") refl))
of_build_fault (build.Size c) = and_number c (literal (codes "size") refl)
of_build_fault (build.Few have want) = and_number want (and_number have (literal (codes "few") refl))
of_build_fault build.Empty = literal (codes "empty") refl
of_build_fault build.Memory = nothing

of_dual_fault : (f : DualFault) → IsUnbroken (dual_fault_text f)
of_dual_fault dual.Lead = literal (codes "lead") refl
of_dual_fault (dual.Above at value limit) = and_integer limit (and_integer value (and_number at (literal (codes "above") refl)))

of_field : (name : FieldName) → IsUnbroken (field_text name)
of_field Format = literal (codes "format") refl
of_field N = literal (codes "n") refl
of_field D = literal (codes "d") refl
of_field W = literal (codes "w") refl
of_field Words = literal (codes "words") refl
of_field Basis = literal (codes "basis") refl
of_field Representatives = literal (codes "representatives") refl
of_field D1 = literal (codes "d1") refl
of_field Classes = literal (codes "classes") refl
of_field Op = literal (codes "op") refl
of_field Places = literal (codes "places") refl
of_field Digits = literal (codes "digits") refl
of_field By = literal (codes "by") refl
of_field Size = literal (codes "size") refl
of_field Part = literal (codes "part") refl
of_field Other = literal (codes "other") refl
of_field Pairs = literal (codes "pairs") refl
of_field Even = literal (codes "even") refl
of_field M = literal (codes "m") refl
of_field C = literal (codes "c") refl
of_field Y = literal (codes "y") refl
of_field Cites = literal (codes "cites") refl

of_file_fault : (f : DocumentFault) → IsUnbroken (file_fault_text f)
of_file_fault (file.Bytes b) = and_number b (literal (codes "bytes") refl)
of_file_fault file.NotToml = literal (codes "toml") refl
of_file_fault file.Kind = literal (codes "kind") refl
of_file_fault (file.Field name) = joined (literal (codes "field ") refl) (of_field name)
of_file_fault file.Unknown = literal (codes "unknown") refl
of_file_fault (file.Digits i) = and_number i (literal (codes "digits") refl)
of_file_fault (file.Size c) = and_number c (literal (codes "size") refl)
of_file_fault file.Memory = nothing

-- a piece that the fault names is named by an id
abbrev pub NamesById : SubmitFault → Type 0
NamesById (submit.NoSuch part) = IsTrue (is_id part)
NamesById (submit.WrongPart part) = IsTrue (is_id part)
NamesById f = ⊤

pub of_submit_fault : (f : SubmitFault) → NamesById f → IsUnbroken (submit_fault_text f)
of_submit_fault submit.Taken h = literal (codes "taken") refl
of_submit_fault (submit.FullPieces count) h = and_number count (literal (codes "full pieces") refl)
of_submit_fault (submit.File reason) h = of_file_fault reason
of_submit_fault (submit.NoSuch part) h = joined (literal (codes "nosuch ") refl) (of_id part h)
of_submit_fault (submit.WrongPart part) h = joined (literal (codes "part ") refl) (of_id part h)
of_submit_fault (submit.Code reason) h = of_code_fault reason
of_submit_fault (submit.Partition reason) h = of_partition_fault reason
of_submit_fault (submit.Build reason) h = of_build_fault reason
of_submit_fault (submit.Dual reason) h = of_dual_fault reason
of_submit_fault (submit.FullWords total) h = and_number total (literal (codes "full words") refl)
of_submit_fault submit.Memory h = nothing
