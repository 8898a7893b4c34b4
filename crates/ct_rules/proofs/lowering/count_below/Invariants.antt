use Rattle.std.proofs.Common.{◌≡◌, ◌≤◌}
use Rattle.ct_rules.specs.Removal.{marked, count_below}
use Rattle.ct_rules.proofs.lowering.count_below.Given as goal

-- so far those below the place are counted
abbrev pub invariant-loop-other : goal.invariant-loop-other
invariant-loop-other l = (l.count ≡ count_below (marked l.gone) l.other) × (l.count ≤ l.other) × (l.other ≤ l.place)
