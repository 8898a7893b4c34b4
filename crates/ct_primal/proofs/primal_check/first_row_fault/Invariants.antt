-- Below k no row has a fault.
use Rattle.std.proofs.Common.{◌≡◌, None}
use Rattle.ct_duals.specs.Check.{first_below}
use Rattle.ct_primal.specs.Primal.{row_fault}
use Rattle.ct_primal.proofs.primal_check.first_row_fault.Given as goal

abbrev pub invariant-loop-k : goal.invariant-loop-k
invariant-loop-k g l = first_below (row_fault (g.S.Scheme.number l.scheme) l.primal) l.k ≡ None
