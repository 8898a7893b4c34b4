-- Where each answer comes for a document of a kind, and which bytes are accepted as an evidence.
use Rattle.std.specs.Prelude.{◌≡◌, ℕ, List, [], Result, Ok, Err}
use Rattle.toml.specs.Data.{Data}
use Rattle.ct_fields.specs.Tables.{IsDocument, IsOfKind}
use Rattle.ct_fields.specs.HasCites.{HasRightFormat, HasWrongFormat}
use Rattle.ct_fields.specs.Schema.{IsAnswerBy}
use Rattle.ct_fields.specs.declared.field.FieldName.TheVariants.{Format}
use Rattle.ct_fields.specs.declared.fault.DocumentFault.{DocumentFault}
use Rattle.ct_fields.specs.declared.fault.DocumentFault.TheVariants.{Field}
use Rattle.ct_kind.specs.declared.evidence.Evidence.{Evidence}
use Rattle.ct_files.specs.Kinds.{kind_of, kind_text, schema_of}
use Rattle.ct_files.specs.declared.kind.Kind.{Kind}

-- where each answer comes for a document of the kind: the format is judged before the fields of the kind
pub data IsAnswer (kind : Kind) (document : Data) (answer : Result Evidence DocumentFault) : Type 0 where
  of_format : HasWrongFormat document → answer ≡ Err (Field Format) → IsAnswer kind document answer
  of_fields : HasRightFormat document → IsAnswerBy [] (schema_of kind) document answer → IsAnswer kind document answer

-- the table is of none of the kinds
abbrev pub IsOfNoKind : Data → Type 0
IsOfNoKind document = (kind : Kind) → ¬ (IsOfKind (kind_text kind) document)

-- the bytes write a table of the kind of the evidence, whose format is right and whose fields state the evidence
pub record Accepts (bytes : List ℕ) (evidence : Evidence) : Type 0 where
  pub document : Data
  pub written : IsDocument bytes document
  pub of_kind : IsOfKind (kind_text (kind_of evidence)) document
  pub format : HasRightFormat document
  pub states : IsAnswerBy [] (schema_of (kind_of evidence)) document (Ok evidence)
