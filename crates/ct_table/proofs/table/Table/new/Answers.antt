use Rattle.std.proofs.Common.{sym, subst}
use Rattle.std.proofs.lemmas.List.Elements.{All-nil}
use Rattle.ct_rule_parts.specs.Support.{Stands, AllStand}
use Rattle.ct_table.proofs.table.Table.new.Goals as goal

pub rebuild-requires-clause-stand : goal.rebuild-requires-clause-stand
rebuild-requires-clause-stand c = subst AllStand (sym c.new.ensures.items) (All-nil Stands)
