-- The text of the operation in a document.
use Rattle.std.proofs.Common.{◌≡◌, ℕ, Bool, false, List, String, Global, Option, Some, ok_or, codes, sym, ap, ◌∙◌}
use Rattle.std.specs.Option.{option_and_then, option_map_or}
use Rattle.std.specs.Str.{bytes_eq}
use Rattle.std.specs.String.{string_bytes}
use Rattle.toml.specs.Data.{Data, string, get}
use Rattle.toml.specs.View.{view}
use Rattle.toml.specs.declared.value.Value.{Value}
use Rattle.toml.specs.declared.value.Value.TheVariants as value
use Rattle.toml.proofs.Views.{view-String}
use Rattle.ct_fields.specs.Field.{field_text}
use Rattle.ct_fields.specs.Fields.{is_text}
use Rattle.ct_fields.specs.Schema.{needed, passes}
use Rattle.ct_fields.specs.declared.field.FieldName.TheVariants.{Op}
use Rattle.ct_fields.specs.declared.fault.DocumentFault.TheVariants.{Field}
use Rattle.ct_build_files.specs.Operation.{operation_named}
use Rattle.ct_build_files.specs.BuildFields.{operation_in, operation_form}
use Rattle.ct_build_files.specs.declared.operation.Operation.{Operation}

-- a text stands there
text_there : (document : Data) (text : List ℕ) (v : Value) (s : String Global) → Some (view v) ≡ get text document → text ≡ field_text Op → v ≡ value.String s
    → get (field_text Op) document ≡ Some (string (string_bytes s))
text_there document text v s stands named is =
    ap (λ (t : List ℕ). get t document) (sym named) ∙ sym stands ∙ ap (λ (w : Value). Some (view w)) is ∙ ap Some (view-String s)

-- the operation that is found by it
pub operation_read : (document : Data) (text bytes : List ℕ) (v : Value) (s : String Global) (found : Option Operation) → Some (view v) ≡ get text document
    → text ≡ field_text Op → v ≡ value.String s → bytes ≡ string_bytes s → found ≡ operation_named bytes → ok_or found (Field Op) ≡ needed operation_form document
operation_read document text bytes v s found stands named is same found-is =
    ap (λ (o : Option Operation). ok_or o (Field Op)) (found-is ∙ ap operation_named same)
    ∙ sym (ap (λ (o : Option Data). ok_or (option_and_then operation_in o) (Field Op)) (text_there document text v s stands named is))

-- and whether it is `select`
pub select_read : (document : Data) (text bytes : List ℕ) (v : Value) (s : String Global) (selected : Bool) → Some (view v) ≡ get text document
    → text ≡ field_text Op → v ≡ value.String s → bytes ≡ string_bytes s → selected ≡ bytes_eq bytes (codes "select") → selected ≡ passes Op (is_text (codes "select")) document
select_read document text bytes v s selected stands named is same selected-is =
    selected-is ∙ ap (λ (bs : List ℕ). bytes_eq bs (codes "select")) same
    ∙ sym (ap (λ (o : Option Data). option_map_or (is_text (codes "select")) o false) (text_there document text v s stands named is))
