-- With the entries that are left the divisor makes up that of all, and it is small.
use Rattle.ct_finder.specs.Inside.Pivot.{crossed}
use Rattle.std.proofs.Common.{◌≡◌, ◌<◌, ◌^◌, drop}
use Rattle.std.specs.Prelude.{fold}
use Rattle.ct_finder.specs.Divisor.{gcd_of}
use Rattle.ct_finder.proofs.CrossedRows.{with_entry}
use Rattle.ct_finder.proofs.row.gcd_of_crossed.Given as goal

abbrev pub invariant-loop-j : goal.invariant-loop-j
invariant-loop-j l =
    (fold with_entry l.divisor (drop l.j (crossed l.p l.r l.pivot l.row)) ≡ gcd_of (crossed l.p l.r l.pivot l.row))
    × (l.divisor < 2 ^ 127)
