use Rattle.std.proofs.Common.{List, subst}
use Rattle.ct_piece.specs.Piece.{PieceValue}
use Rattle.ct_piece.specs.Standing.{AreStanding}
use Rattle.ct_piece.proofs.StandingLemmas.{AreStanding-true}
use Rattle.ct_pieces.proofs.pieces.Pieces.pieces.Goals as goal

pub returns-clause-sizes : goal.returns-clause-sizes
returns-clause-sizes c = AreStanding-true _ (subst (λ (ps : List PieceValue). AreStanding ps) c.self.view_is c.self.invariant.0)

pub returns-clause-standing : goal.returns-clause-standing
returns-clause-standing c = subst (λ (ps : List PieceValue). AreStanding ps) c.self.view_is c.self.invariant.0
