use Rattle.std.proofs.Common.{ap, ◌∙◌}
use Rattle.toml.specs.Data.{string}
use Rattle.toml.specs.View.{view, table_view}
use Rattle.ct_fields.specs.declared.field.FieldName.TheVariants.{Op}
use Rattle.ct_build_files.specs.Operation.{operation_text, operation_of}
use Rattle.ct_build_files.proofs.PutFields.{put_same}
use Rattle.ct_build_files.proofs.written_build.put_operation.Goals as goal

pub returns : goal.returns
returns c =
    put_same c.put.result Op (view c.in_ok-text.text) (string (operation_text (operation_of c.args.step.now))) (table_view c.args.table.now)
    (table_view c.put.new.table) (c.in_ok-text.ensures ∙ ap string (c.text.ensures ∙ ap operation_text c.of.ensures)) c.put.ensures
