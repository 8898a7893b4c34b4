-- All is right as long as the pairs that are left are, from `low` on.
use Rattle.std.proofs.Common.{◌≡◌, drop}
use Rattle.ct_duals.specs.Form.{are_allowances_from}
use Rattle.ct_duals.proofs.form.are_allowances.Given as goal

abbrev pub invariant-loop-i : goal.invariant-loop-i
invariant-loop-i l =
    are_allowances_from l.entry l.even l.low (drop l.i-index l.y) ≡ are_allowances_from l.entry l.even 0 l.y
