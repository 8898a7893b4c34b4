-- Why a submission is refused, in words.
use Rattle.std.specs.Prelude.{ℕ, List, [], ◌++◌, codes}
use Rattle.ct_text.specs.Number.{spaced}
use Rattle.ct_fields.specs.Field.{field_text}
use Rattle.ct_fields.specs.declared.fault.DocumentFault.{DocumentFault}
use Rattle.ct_fields.specs.declared.fault.DocumentFault.TheVariants as file
use Rattle.ct_word_files.specs.WordFaultText.{code_fault_text}
use Rattle.ct_partition_files.specs.PartitionFaultText.{partition_fault_text}
use Rattle.ct_build_files.specs.BuildFaultText.{build_fault_text}
use Rattle.ct_dual_files.specs.DualFaultText.{dual_fault_text}
use Rattle.ct_kind.specs.declared.fault.SubmitFault.{SubmitFault}
use Rattle.ct_kind.specs.declared.fault.SubmitFault.TheVariants as submit

-- why a document is not read; want of memory has no text
abbrev pub file_fault_text : DocumentFault → List ℕ
file_fault_text (file.Bytes b) = codes "bytes" ++ spaced b
file_fault_text file.NotToml = codes "toml"
file_fault_text file.Kind = codes "kind"
file_fault_text (file.Field name) = codes "field " ++ field_text name
file_fault_text file.Unknown = codes "unknown"
file_fault_text (file.Digits i) = codes "digits" ++ spaced i
file_fault_text (file.Size c) = codes "size" ++ spaced c
file_fault_text file.Memory = []

-- why a submission makes no piece; want of memory has no text
abbrev pub submit_fault_text : SubmitFault → List ℕ
submit_fault_text submit.Taken = codes "taken"
submit_fault_text (submit.FullPieces count) = codes "full pieces" ++ spaced count
submit_fault_text (submit.File reason) = file_fault_text reason
submit_fault_text (submit.NoSuch part) = codes "nosuch " ++ part
submit_fault_text (submit.WrongPart part) = codes "part " ++ part
submit_fault_text (submit.Code reason) = code_fault_text reason
submit_fault_text (submit.Partition reason) = partition_fault_text reason
submit_fault_text (submit.Build reason) = build_fault_text reason
submit_fault_text (submit.Dual reason) = dual_fault_text reason
submit_fault_text (submit.FullWords total) = codes "full words" ++ spaced total
submit_fault_text submit.Memory = []
