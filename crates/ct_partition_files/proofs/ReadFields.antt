-- A field whose value is read.
use Rattle.std.proofs.Common.{◌≡◌, Option, Some, None, option_map, Result, ok_or, sym, ap, subst, ◌∙◌}
use Rattle.std.specs.Option.{option_and_then}
use Rattle.toml.specs.Data.{Data, get}
use Rattle.ct_fields.specs.Field.{field_text}
use Rattle.ct_fields.specs.Fields.{field}
use Rattle.ct_fields.specs.Reads.{Reads}
use Rattle.ct_fields.specs.declared.fault.DocumentFault.{DocumentFault}
use Rattle.ct_fields.specs.declared.fault.DocumentFault.TheVariants.{Field}
use Rattle.ct_fields.specs.declared.field.FieldName.{FieldName}

-- what stands at the key of a field, where it has the form that is asked, and else the fault of the field
pub reads-field : {X Y : Type 0} (view : X → Y) (form : Data → Option Y) (name : FieldName) (document d : Data) (found : Option X) (r : Result X DocumentFault)
    → get (field_text name) document ≡ Some d → option_map view found ≡ form d → r ≡ ok_or found (Field name) → Reads view r (field form name document)
reads-field {X} {Y} view form name document d found r here is answer =
    subst (λ (a : Result X DocumentFault). Reads view a (field form name document)) (sym answer) (at found is)
  where
    there : field form name document ≡ ok_or (form d) (Field name)
    there = ap (λ (o : Option Data). ok_or (option_and_then form o) (Field name)) here

    at : (o : Option X) → option_map view o ≡ form d → Reads view (ok_or o (Field name)) (field form name document)
    at None none = λ other. there ∙ ap (λ (o : Option Y). ok_or o (Field name)) (sym none)
    at (Some x) some = there ∙ ap (λ (o : Option Y). ok_or o (Field name)) (sym some)
