use Rattle.std.proofs.Common.{List, ℕ, ◌++◌, ap, ◌∙◌, take_all}
use Rattle.std.specs.List.{flat_map}
use Rattle.ct_piece.specs.Piece.{PieceValue}
use Rattle.ct_piece.specs.Text.{piece_text}
use Rattle.ct_text.proofs.GrowingTexts.{puts-more}
use Rattle.ct_replies.specs.Text.{ended}
use Rattle.ct_replies.proofs.Puts.{puts-item}
use Rattle.ct_replies.proofs.text.put_pieces.Goals as goal

pub loop-piece-preserved : goal.loop-piece-preserved
loop-piece-preserved c =
    let line_of = λ (p : PieceValue). ended (piece_text p) in
    let before = c.loop-piece.text.items in
    let described = c.in_ok-extend_from_slice.ensures.items ∙ ap (λ (l : List ℕ). before ++ l) (c.deref.ensures.value ∙ c.in_ok-describe.ensures) in
    let put = puts-more _ _ _ _ _ described c.in_ok-push.ensures.items in
    puts-item line_of c.args.pieces.now c.loop-piece.piece-index _ _ _ _ c.loop-piece-test.true c.loop-piece.invariant
    (put ∙ ap (λ (p : PieceValue). before ++ line_of p) c.piece-item.is)

pub returns : goal.returns
returns c =
    c.loop-piece.invariant
    ∙ ap (λ (pieces : List PieceValue). c.args.text.now.items ++ flat_map (λ p. ended (piece_text p)) pieces)
    (take_all c.loop-piece.piece-index c.args.pieces.now c.loop-piece-test.false)
