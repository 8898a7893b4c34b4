-- All is right as long as the numbers that are left are.
use Rattle.std.proofs.Common.{◌≡◌, drop}
use Rattle.std.specs.List.{list_all}
use Rattle.ct_duals.specs.Form.{is_number}
use Rattle.ct_duals.proofs.form.is_none_negative.Given as goal

abbrev pub invariant-loop-number : goal.invariant-loop-number
invariant-loop-number l =
    list_all is_number (drop l.number-index l.c) ≡ list_all is_number l.c
