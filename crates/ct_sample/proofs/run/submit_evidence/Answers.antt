use Rattle.std.proofs.Common.{◌≡◌, Bool, false, Result, is_ok, sym, ap, ◌∙◌}
use Rattle.std.specs.Prelude.{◌≢◌}
use Rattle.std.proofs.lemmas.Result.{IfOk-weaker}
use Rattle.ct_kind.specs.declared.fault.SubmitFault.{SubmitFault}
use Rattle.ct_piece.specs.Piece.{PieceValue}
use Rattle.ct_piece.specs.Submission.{submitted, with_piece}
use Rattle.ct_sample.proofs.run.submit_evidence.Goals as goal

pub returns-in-Ok-clause-pieces : goal.returns-in-Ok-clause-pieces
returns-in-Ok-clause-pieces c =
    let added = c.in-Ok.ensures.accepted in
    added.pieces ∙ ap (with_piece c.args.ledger.now.pieces) (sym added.made)

pub returns-in-Err-clause-pieces : goal.returns-in-Err-clause-pieces
returns-in-Err-clause-pieces c =
    let made = submitted c.args.ledger.now.pieces c.args.id c.args.document in
    IfOk-weaker c.refused.result (λ (accepted : Bool). (c.in-Err.fault ≢ SubmitFault.Memory) × (accepted ≡ false))
    (λ accepted. c.admit.new.self.pieces ≡ with_piece c.args.ledger.now.pieces made)
    (λ accepted known. (λ i. (c.in-Err.ensures.unchanged i).pieces)
    ∙ ap (with_piece c.args.ledger.now.pieces) (sym (c.in-Err.ensures.fault known.0)))
    c.refused.ensures

pub returns-in-Err-clause-accepted : goal.returns-in-Err-clause-accepted
returns-in-Err-clause-accepted c =
    let made = submitted c.args.ledger.now.pieces c.args.id c.args.document in
    IfOk-weaker c.refused.result (λ (accepted : Bool). (c.in-Err.fault ≢ SubmitFault.Memory) × (accepted ≡ false)) (λ accepted. accepted ≡ is_ok made)
    (λ accepted known. known.1 ∙ sym (ap (λ (r : Result PieceValue SubmitFault). is_ok r) (c.in-Err.ensures.fault known.0)))
    c.refused.ensures
