use Rattle.std.proofs.Common.{subst}
use Rattle.ct_rules.specs.Derivation.{IsDerivation}
use Rattle.ct_table.specs.Table.{TableValue}
use Rattle.ct_table.proofs.table.Table.line.Goals as goal

pub returns-clause-derivation : goal.returns-clause-derivation
returns-clause-derivation c =
    subst (λ (t : TableValue). IsDerivation t.supports t.lines) c.self.view_is c.self.invariant.0.kept.derivation
