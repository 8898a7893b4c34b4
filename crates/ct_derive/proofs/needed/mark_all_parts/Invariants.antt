use Rattle.std.proofs.Common.{◌≤◌, List, length}
use Rattle.ct_rules.specs.Derivation.{LineValue}
use Rattle.ct_derive.specs.Inside.Needed.{AreMarkedPieces}
use Rattle.ct_derive.proofs.needed.mark_all_parts.Given as goal

abbrev pub invariant-loop-place : goal.invariant-loop-place
invariant-loop-place g l = (l.place ≤ length (g.P.PieceParts.parts_of l.pieces))
    × ((lines : List LineValue) → AreMarkedPieces (length (g.P.PieceParts.parts_of l.pieces)) (g.P.PieceParts.parts_of l.pieces) lines l.initial.marks → AreMarkedPieces l.place (g.P.PieceParts.parts_of l.pieces) lines l.marks)

abbrev pub decreases-loop-place : goal.decreases-loop-place
decreases-loop-place g l = l.place
