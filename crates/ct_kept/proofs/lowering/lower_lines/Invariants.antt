use Rattle.std.proofs.Common.{◌≡◌, ◌++◌, map, take, drop}
use Rattle.ct_rules.specs.Removal.{marked, lowered_line}
use Rattle.ct_kept.proofs.lowering.lower_lines.Given as goal

-- the lines so far are lowered
abbrev pub invariant-loop-line : goal.invariant-loop-line
invariant-loop-line l =
    l.lines ≡ map (lowered_line (marked l.gone)) (take l.line-index l.fn.lines) ++ drop l.line-index l.fn.lines
