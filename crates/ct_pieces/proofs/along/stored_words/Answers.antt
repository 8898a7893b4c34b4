use Rattle.std.proofs.Common.{List, arith, take_all, ap, ◌∙◌}
use Rattle.std.proofs.lemmas.List.Sums.{sum_by-take-le, sum_by_more}
use Rattle.ct_piece.specs.Piece.{PieceValue, stored_by, stored_words}
use Rattle.ct_pieces.proofs.along.stored_words.Goals as goal

pub returns : goal.returns
returns c =
    c.loop-piece.invariant
    ∙ ap (λ (ps : List PieceValue). stored_words ps) (take_all c.loop-piece.piece-index c.args.pieces.now c.loop-piece-test.false)

pub overflow_add-stored : goal.overflow_add-stored
overflow_add-stored c =
    let so_far = c.loop-piece.invariant in
    let part = sum_by-take-le stored_by c.args.pieces.now c.loop-piece.piece-index in
    let all = c.requires in
    let bound = c.stored_by-stored.ensures.bound in
    omega (arith, so_far, part, all, bound)

pub loop-piece-preserved : goal.loop-piece-preserved
loop-piece-preserved c =
    let ps = c.args.pieces.now in
    let i = c.loop-piece.piece-index in
    let p = c.piece-item.result in
    let before = c.loop-piece.invariant in
    let words = c.stored_by-stored.ensures.words ∙ ap stored_by c.piece-item.is in
    let more = sum_by_more stored_by ps i p c.loop-piece-test.true in
    omega (arith, before, words, more)
