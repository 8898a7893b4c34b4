use Rattle.std.proofs.Common.{sym, ap, ◌∙◌, List}
use Rattle.ct_piece.specs.Piece.{PieceValue}
use Rattle.ct_piece.specs.Submission.{submitted}
use Rattle.ct_piece.specs.Supports.{supports_of}
use Rattle.ct_verify.specs.Inside.Read.{ReadingValue}
use Rattle.ct_verify.specs.Inside.Reading.{and_piece, after_block}
use Rattle.ct_verify.specs.declared.part.Part.TheVariants as part
use Rattle.ct_verify.specs.Inside.Step.{On}
use Rattle.ct_verify.proofs.FailedLines.{failed_so}
use Rattle.ct_verify.proofs.LineSteps.{one_more}
use Rattle.ct_verify.proofs.reading.Reading.submit.Goals as goal

pub invariant_of-self-in-Err : goal.invariant_of-self-in-Err
invariant_of-self-in-Err c = c.in_ok-reserve.ensures.items ∙ c.self.invariant ∙ ap supports_of (sym c.in-Err.ensures.unchanged)

pub invariant_of-self-in_err-refused-in-Err : goal.invariant_of-self-in_err-refused-in-Err
invariant_of-self-in_err-refused-in-Err c = c.in_ok-reserve.ensures.items ∙ c.self.invariant ∙ ap supports_of (sym c.in-Err.ensures.unchanged)

pub returns-in_ok-refused-in-Err : goal.returns-in_ok-refused-in-Err
returns-in_ok-refused-in-Err c =
    failed_so _ _ c.in_ok-refused-in-Err.ensures.failure
    ∙ ap (after_block c.args.self.now c.args.begun)
    (sym (c.in-Err.ensures.fault c.in_ok-refused-in-Err.ensures.other) ∙ ap (λ (r : ReadingValue). submitted r.pieces c.args.id c.args.document) c.self.view_is)

pub invariant_of-self-in-Ok : goal.invariant_of-self-in-Ok
invariant_of-self-in-Ok c = one_more _ _ _ _ _ c.push_reserved.ensures.items (c.in_ok-reserve.ensures.items ∙ c.self.invariant) c.in-Ok.ensures.supports

pub returns-in-Ok : goal.returns-in-Ok
returns-in-Ok c =
    let added = c.in-Ok.ensures.accepted in
    ap (λ (ps : List PieceValue). On (record { pieces = ps; lines = c.self.inside.lines.items; part = part.Body })) added.pieces
    ∙ ap (λ (r : ReadingValue). On (and_piece r added.piece)) c.self.view_is
    ∙ ap (after_block c.args.self.now c.args.begun)
    (sym added.made ∙ ap (λ (r : ReadingValue). submitted r.pieces c.args.id c.args.document) c.self.view_is)
