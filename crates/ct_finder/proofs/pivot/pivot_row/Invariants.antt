-- The best of the first rows.
use Rattle.std.proofs.Common.{◌<◌, length}
use Rattle.std.specs.Prelude.{zip, IfSome}
use Rattle.ct_finder.proofs.Best.{IsBest}
use Rattle.ct_finder.proofs.pivot.pivot_row.Given as goal

abbrev pub invariant-loop-i : goal.invariant-loop-i
invariant-loop-i l = IsBest l.e (zip l.rows l.basics) l.i l.best × IfSome l.best (λ b. b < length l.rows)
