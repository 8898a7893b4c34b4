use Rattle.std.proofs.Common.{◌<◌, List, [], length, sym, subst, ◌∙◌}
use Rattle.ct_piece.specs.Piece.{PieceValue}
use Rattle.ct_piece.specs.Standing.{AreMade}
use Rattle.ct_pieces.proofs.pieces.Pieces.has_code.Goals as goal

pub has_code-requires-clause-made : goal.has_code-requires-clause-made
has_code-requires-clause-made c = subst (λ (ps : List PieceValue). AreMade [] ps) (sym c.deref.ensures.value) c.self.invariant.0.made

pub has_code-requires-clause-place : goal.has_code-requires-clause-place
has_code-requires-clause-place c = subst (λ (ps : List PieceValue). c.args.place < length ps) (sym (c.deref.ensures.value ∙ c.self.view_is)) c.requires.place
