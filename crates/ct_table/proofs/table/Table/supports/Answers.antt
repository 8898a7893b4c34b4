use Rattle.std.proofs.Common.{subst}
use Rattle.ct_table.specs.Table.{IsShownTable}
use Rattle.ct_table.proofs.CallLemmas.{shown}
use Rattle.ct_table.proofs.table.Table.supports.Goals as goal

pub returns-clause-table : goal.returns-clause-table
returns-clause-table c =
    let t = c.self.inside in
    subst IsShownTable c.self.view_is (shown t.supports.items t.closing.kept t.base t.closing.work c.self.invariant.0)
