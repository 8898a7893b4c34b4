use Rattle.std.proofs.Common.{◌+◌, ℕ, List, remove, ap, ◌∙◌}
use Rattle.std.proofs.lemmas.List.Sums.{sum_by-remove}
use Rattle.ct_piece.specs.Piece.{PieceValue, stored_by, stored_words}
use Rattle.ct_pieces.proofs.pieces.take_at.Goals as goal

pub returns-clause-stored : goal.returns-clause-stored
returns-clause-stored c =
    let items = c.args.pieces.now.items in
    let place = c.args.place in
    let p = c.index.result.now in
    ap (λ (ps : List PieceValue). stored_words ps + c.stored_by-words.result) c.remove.ensures.items
    ∙ ap (λ (n : ℕ). stored_words (remove items place) + n) (c.stored_by-words.ensures.words ∙ ap stored_by c.index.ensures)
    ∙ sum_by-remove stored_by items place p c.requires.place
