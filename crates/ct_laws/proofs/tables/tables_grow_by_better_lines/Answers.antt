use Rattle.ct_laws.proofs.GrowthLemmas.{Grew-with_line}
use Rattle.ct_laws.proofs.tables.tables_grow_by_better_lines.Goals as goal

pub returns-clause-by_line : goal.returns-clause-by_line
returns-clause-by_line c = Grew-with_line
