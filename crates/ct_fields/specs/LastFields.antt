-- What is judged last of a document's fields, whatever its kind: its cites, and then its further keys.
use Rattle.std.specs.Prelude.{Bool, true, false, List, ◌∷◌, Result, is_ok}
use Rattle.toml.specs.Data.{Data}
use Rattle.ct_fields.specs.Steps.{◌>>◌, check}
use Rattle.ct_fields.specs.Fields.{has_only}
use Rattle.ct_fields.specs.Format.{may_cite}
use Rattle.ct_fields.specs.Cites.{cites_of}
use Rattle.ct_fields.specs.declared.field.FieldName.{FieldName}
use Rattle.ct_fields.specs.declared.field.FieldName.TheVariants.{Format, Cites}
use Rattle.ct_fields.specs.declared.fault.DocumentFault.{DocumentFault}
use Rattle.ct_fields.specs.declared.fault.DocumentFault.TheVariants.{Field, Unknown}

-- the fields that a document may have beside `kind`: its format, its cites where it may cite, and those of its kind
abbrev pub all_fields : Bool → List FieldName → List FieldName
all_fields true names = Format ∷ Cites ∷ names
all_fields false names = Format ∷ names

-- the fault of wrong cites, or else of a key that neither the kind, whose fields these are, nor the format names
unfoldable pub last_fields : List FieldName → Data → Result (Unit {0}) DocumentFault
last_fields names document = do
  check (is_ok (cites_of document)) (Field Cites)
  check (has_only (all_fields (may_cite document) names) document) Unknown
