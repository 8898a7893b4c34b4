use Rattle.std.proofs.Common.{◌≡◌, [], drop}
use Rattle.ct_rules.specs.Removal.{marked}
use Rattle.ct_table.specs.Closing.{HasMoreLines}
use Rattle.ct_table.specs.Inside.Walk.{walk}
use Rattle.ct_table.proofs.left.keep_lines.Given as goal

-- the walk goes on over the lines that are left
abbrev pub invariant-loop-line : goal.invariant-loop-line
invariant-loop-line l =
    (walk l.base (marked l.gone) [] l.fn.kept l.later
    ≡ walk l.base (marked l.gone) l.moved.items l.kept (drop l.line-index l.later))
    × HasMoreLines l.fn.kept l.kept
