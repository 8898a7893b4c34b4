use Rattle.std.proofs.Common.{sym, ap, ◌∙◌}
use Rattle.ct_piece.specs.Piece.{place_of_id}
use Rattle.ct_piece.proofs.SupportLemmas.{place_of_id-few}
use Rattle.ct_pieces.proofs.pieces.Pieces.place_of.Goals as goal

pub returns-clause-few : goal.returns-clause-few
returns-clause-few c =
    place_of_id-few c.args.id c.self.inside.pieces.items c.place_of.result c.self.invariant.0
    (ap (place_of_id c.args.id) (sym c.deref.ensures.value) ∙ sym c.place_of.ensures)
