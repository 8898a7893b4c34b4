use Rattle.toml.specs.Data.{string}
use Rattle.toml.specs.View.{view, table_view}
use Rattle.ct_words.specs.Text.{word_text}
use Rattle.ct_fields.specs.declared.field.FieldName.TheVariants.{By}
use Rattle.ct_build_files.proofs.PutFields.{put_same}
use Rattle.ct_build_files.proofs.written_build.put_by.Goals as goal

pub returns : goal.returns
returns c =
    put_same c.put.result By (view c.in_ok-by.by) (string (word_text c.args.n c.args.by)) (table_view c.args.table.now) (table_view c.put.new.table)
    c.in_ok-by.ensures c.put.ensures
