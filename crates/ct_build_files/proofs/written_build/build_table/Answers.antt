use Rattle.toml.specs.View.{table_view}
use Rattle.ct_build_files.proofs.PutFields.{put_build}
use Rattle.ct_build_files.proofs.written_build.build_table.Goals as goal

pub returns-clause-table : goal.returns-clause-table
returns-clause-table c =
    put_build c.args.stated c.args.step.now c.args.part c.args.other (table_view c.in_ok-table.table) (table_view c.put_weight.new.table)
    (table_view c.put_operation.new.table) (table_view c.put_id.new.table) (table_view c.put_other.new.table) (table_view c.put_step.new.table)
    c.in_ok-table.ensures c.in_ok-put_weight.ensures c.in_ok-put_operation.ensures c.in_ok-put_id.ensures.table c.in_ok-put_other.ensures.table
    c.in_ok-put_step.ensures

pub returns-clause-part : goal.returns-clause-part
returns-clause-part c = c.in_ok-put_id.ensures.id

pub returns-clause-other : goal.returns-clause-other
returns-clause-other c = c.in_ok-put_other.ensures.id
