use Rattle.toml.specs.Data.{string}
use Rattle.toml.specs.View.{view, table_view}
use Rattle.ct_build_files.proofs.PutFields.{put_same}
use Rattle.ct_build_files.proofs.written_build.put_id.Goals as goal

pub returns-clause-table : goal.returns-clause-table
returns-clause-table c =
    put_same c.put.result c.args.name (view c.in_ok-value.value) (string c.args.id.now) (table_view c.args.table.now) (table_view c.put.new.table)
    c.in_ok-value.ensures.value c.put.ensures
