use Rattle.std.proofs.Common.{ap, subst, sym, ◌∙◌}
use Rattle.std.specs.Str.{IsAscii}
use Rattle.toml.specs.Data.{string}
use Rattle.toml.specs.View.{view, table_view}
use Rattle.ct_fields.specs.declared.field.FieldName.TheVariants.{Digits}
use Rattle.ct_build_files.specs.WrittenBuild.{digits_text}
use Rattle.ct_build_files.proofs.PutFields.{IsAscii_digits_text, put_same}
use Rattle.ct_build_files.proofs.written_build.put_digits.Goals as goal

pub text_value-requires : goal.text_value-requires
text_value-requires c = subst IsAscii (sym c.in_ok-text.ensures) (IsAscii_digits_text c.args.digits.now c.requires)

pub returns : goal.returns
returns c =
    put_same c.put.result Digits (view c.text_value.result) (string (digits_text c.args.digits.now)) (table_view c.args.table.now)
    (table_view c.put.new.table) (c.text_value.ensures ∙ ap string c.in_ok-text.ensures) c.put.ensures
