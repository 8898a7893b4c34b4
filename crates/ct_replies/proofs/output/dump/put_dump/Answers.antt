use Rattle.std.proofs.Common.{length, subst}
use Rattle.std.proofs.lemmas.Result.{err_from_is_err_and}
use Rattle.std.specs.List.{flat_map}
use Rattle.ct_io.specs.Buffered.{Stops}
use Rattle.ct_io.proofs.BufferedLemmas.{stops_sooner, is_put_as, is_put_then}
use Rattle.ct_piece.specs.Dump.{piece_dump}
use Rattle.ct_replies.proofs.Outputs.{comment_of, dump_is}
use Rattle.ct_replies.proofs.output.dump.put_dump.Goals as goal

pub returns-in_err-put_comment : goal.returns-in_err-put_comment
returns-in_err-put_comment g c =
    let pieces = c.args.pieces.now in
    let stops = subst (Stops _ _) (dump_is pieces) (stops_sooner _ _ (comment_of (length pieces)) (flat_map piece_dump pieces) c.in_err-put_comment.ensures) in
    let p = err_from_is_err_and c.from_residual.result c.from_residual.ensures.1 in
    rw p.1 stops

pub returns : goal.returns
returns g c =
    let pieces = c.args.pieces.now in
    is_put_as _ _ _ _ _ (dump_is pieces)
    (is_put_then _ _ _ (comment_of (length pieces)) _ _ c.in_ok-put_comment.ensures c.put_submissions.ensures)
