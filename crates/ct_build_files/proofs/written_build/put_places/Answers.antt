use Rattle.toml.specs.View.{view, table_view}
use Rattle.ct_fields.specs.declared.field.FieldName.TheVariants.{Places}
use Rattle.ct_build_files.specs.WrittenBuild.{number_list}
use Rattle.ct_build_files.proofs.PutFields.{put_same}
use Rattle.ct_build_files.proofs.written_build.put_places.Goals as goal

pub returns : goal.returns
returns c =
    put_same c.put.result Places (view c.in_ok-places.places) (number_list c.args.places.now) (table_view c.args.table.now) (table_view c.put.new.table)
    c.in_ok-places.ensures c.put.ensures
