use Rattle.std.proofs.Common.{List, ℕ, ◌++◌, ap, ◌∙◌}
use Rattle.ct_commands.specs.Submission.{submission_text}
use Rattle.ct_piece.specs.Dump.{piece_dump}
use Rattle.ct_piece.proofs.PutItems.{puts-item}
use Rattle.ct_piece.proofs.dump.put_submissions.Goals as goal

pub loop-piece-preserved : goal.loop-piece-preserved
loop-piece-preserved c =
    let before = c.loop-piece.text.items in
    let put = c.in_ok-put_submission.ensures
    ∙ ap (λ (id : List ℕ). before ++ submission_text id c.document.result.now) (c.text.ensures.text ∙ c.id.ensures)
    ∙ ap (λ (document : List ℕ). before ++ submission_text c.piece-item.result.id document) c.document.ensures in
    puts-item piece_dump c.args.pieces.now c.loop-piece.piece-index c.piece-item.result _ _ _ c.loop-piece-test.true c.piece-item.is c.loop-piece.invariant put
