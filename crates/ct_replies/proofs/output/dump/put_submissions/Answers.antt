use Rattle.std.proofs.Common.{List, ap, subst, take_all}
use Rattle.std.specs.List.{flat_map}
use Rattle.std.proofs.lemmas.Result.{err_from_is_err_and}
use Rattle.ct_io.specs.Buffered.{Puts}
use Rattle.ct_io.proofs.BufferedLemmas.{puts_none, puts_item, stops_at_item}
use Rattle.ct_piece.specs.Piece.{PieceValue}
use Rattle.ct_piece.specs.Dump.{piece_dump}
use Rattle.ct_replies.proofs.output.dump.put_submissions.Goals as goal

pub loop-piece-init : goal.loop-piece-init
loop-piece-init g c = puts_none _

pub loop-piece-preserved : goal.loop-piece-preserved
loop-piece-preserved g c =
    puts_item piece_dump c.args.pieces.now c.loop-piece.piece-index c.piece-item.result _ _ _ c.loop-piece-test.true c.piece-item.is
    c.loop-piece.invariant c.in_ok-put_submission.ensures

pub returns-in_err-put_submission : goal.returns-in_err-put_submission
returns-in_err-put_submission g c =
    let stops = stops_at_item piece_dump c.args.pieces.now c.loop-piece.piece-index c.piece-item.result _ _ _ c.loop-piece-test.true c.piece-item.is
    c.loop-piece.invariant c.in_err-put_submission.ensures in
    let p = err_from_is_err_and c.from_residual.result c.from_residual.ensures.1 in
    rw p.1 stops

pub returns : goal.returns
returns g c =
    subst (Puts _ _)
    (ap (λ (pieces : List PieceValue). flat_map piece_dump pieces) (take_all c.loop-piece.piece-index c.args.pieces.now c.loop-piece-test.false))
    c.loop-piece.invariant
