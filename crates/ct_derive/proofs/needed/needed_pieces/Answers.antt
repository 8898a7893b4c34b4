use Rattle.std.proofs.Common.{Bool, List, sym, subst}
use Rattle.ct_derive.specs.Inside.Needed.{AreMarkedPieces}
use Rattle.ct_derive.proofs.NeededPieces.{needed_from_places}
use Rattle.ct_derive.proofs.needed.needed_pieces.Goals as goal

pub returns : goal.returns
returns g c =
    needed_from_places (g.P.PieceParts.parts_of c.args.pieces.now) c.args.lines.now c.deref.result.now c.marked_places.result
    (subst (λ (marks : List Bool). AreMarkedPieces 0 (g.P.PieceParts.parts_of c.args.pieces.now) c.args.lines.now marks) (sym c.deref.ensures.value) c.in_ok-marks.ensures)
    c.marked_places.ensures.ascending c.marked_places.ensures.places

pub needed_marks-requires-clause-cited : goal.needed_marks-requires-clause-cited
needed_marks-requires-clause-cited g c = c.requires.cited

pub needed_marks-requires-clause-earlier : goal.needed_marks-requires-clause-earlier
needed_marks-requires-clause-earlier g c = c.requires.earlier
