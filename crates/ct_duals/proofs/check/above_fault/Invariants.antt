-- Below i nothing is above what is allowed.
use Rattle.std.proofs.Common.{◌≡◌, None}
use Rattle.ct_duals.specs.Check.{fault_at, first_below}
use Rattle.ct_duals.proofs.check.above_fault.Given as goal

abbrev pub invariant-loop-i : goal.invariant-loop-i
invariant-loop-i g l = first_below (fault_at (g.S.Scheme.number l.scheme) l.dual) l.i ≡ None
