-- The formats of documents.
use Rattle.std.specs.Prelude.{ℕ, Bool, if◌then◌else◌, Result, Ok, is_ok}
use Rattle.toml.specs.Data.{Data}
use Rattle.ct_fields.specs.Fields.{has_field, number_field}
use Rattle.ct_fields.specs.declared.field.FieldName.TheVariants.{Format}
use Rattle.ct_fields.specs.declared.fault.DocumentFault.{DocumentFault}

-- the format of a document: 1 or 2, as it says, and 1 where it says none
abbrev pub format_of : Data → Result ℕ DocumentFault
format_of document = if has_field Format document then number_field Format 1 2 document else Ok 1

-- whether the document says that it is of format 2, the one that may cite
abbrev pub may_cite : Data → Bool
may_cite document = is_ok (number_field Format 2 2 document)
