-- The document that bytes give: an evidence with its cites, or the first fault.
use Rattle.std.specs.Prelude.{◌≡◌, ℕ, nat_le, List, [], ◌∷◌, length, None, Result, Ok}
use Rattle.toml.specs.Data.{Data, get}
use Rattle.ct_fields.specs.Field.{field_text}
use Rattle.ct_fields.specs.Steps.{◌>>=◌, ◌>>◌, check}
use Rattle.ct_fields.specs.Document.{read_table}
use Rattle.ct_fields.specs.Cites.{IsCites, cites_of}
use Rattle.ct_fields.specs.HasCites.{IsSecond, HasCites}
use Rattle.ct_fields.specs.Tables.{IsDocument}
use Rattle.ct_fields.specs.declared.document.TheConstants.{MAX_DOCUMENT}
use Rattle.ct_fields.specs.declared.field.FieldName.TheVariants.{Format}
use Rattle.ct_fields.specs.declared.fault.DocumentFault.{DocumentFault}
use Rattle.ct_fields.specs.declared.fault.DocumentFault.TheVariants.{Bytes}
use Rattle.ct_kind.specs.declared.evidence.Evidence.{Evidence}
use Rattle.ct_files.specs.Evidence.{IsSound, evidence_of, read_of}
use Rattle.ct_files.specs.declared.contents.Document.{Document}

-- an evidence, and the texts that say where it comes from
pub record DocumentValue : Type 0 where
  pub evidence : Evidence
  pub cites : List (List ℕ)

-- what a document holds
abbrev pub value_of : Document → DocumentValue
value_of d = record { evidence = d.evidence; cites = d.cites.items }

-- an evidence that cites nothing
abbrev pub without_cites : Evidence → DocumentValue
without_cites e = record { evidence = e; cites = [] }

-- what stands of a document that is read
abbrev pub IsRightDocument : DocumentValue → Type 0
IsRightDocument d = IsSound d.evidence × IsCites d.cites

-- the document of a table: its evidence, and then its cites
unfoldable pub document_of : Data → Result DocumentValue DocumentFault
document_of written = do
  evidence ← evidence_of written
  cites ← cites_of written
  Ok (record { evidence = evidence; cites = cites })

-- what bytes read as, however many they are
unfoldable pub document_without_limit : List ℕ → Result DocumentValue DocumentFault
document_without_limit bytes = do
  written ← read_table bytes
  document_of written

-- what bytes read as: a document, or its first fault
unfoldable pub document_read_of : List ℕ → Result DocumentValue DocumentFault
document_read_of bytes = do
  check (nat_le (length bytes) MAX_DOCUMENT) (Bytes (length bytes))
  document_without_limit bytes

-- the evidence of a document, or the same fault
abbrev pub evidence_part : Result DocumentValue DocumentFault → Result Evidence DocumentFault
evidence_part read = do
  document ← read
  Ok document.evidence

-- the bytes read as the evidence of the document, and write a table that has its cites
pub record AcceptsDocument (bytes : List ℕ) (d : DocumentValue) : Type 0 where
  pub table : Data
  pub written : IsDocument bytes table
  pub evidence : read_of bytes ≡ Ok d.evidence
  pub cites : HasCites table d.cites

-- the format that is written: none where nothing is cited, which is format 1, and else format 2
abbrev pub WritesFormat : List (List ℕ) → Data → Type 0
WritesFormat [] written = get (field_text Format) written ≡ None
WritesFormat (cite ∷ cites) written = IsSecond written
