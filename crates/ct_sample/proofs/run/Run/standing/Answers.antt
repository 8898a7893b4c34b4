use Rattle.std.proofs.Common.{List, length, sym, ap, ◌∙◌}
use Rattle.std.proofs.lemmas.List.{length-map}
use Rattle.ct_piece.specs.Piece.{PieceValue}
use Rattle.ct_sample.specs.Run.{RunValue, without_document}
use Rattle.ct_sample.proofs.run.Run.standing.Goals as goal

pub returns-clause-count : goal.returns-clause-count
returns-clause-count c =
    ap (λ (pieces : List PieceValue). length pieces) c.pieces.ensures.pieces ∙ sym (length-map c.self.inside.ledger.pieces without_document)
    ∙ ap (λ (r : RunValue). length r.pieces) c.self.view_is
