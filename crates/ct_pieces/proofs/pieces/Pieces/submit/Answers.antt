use Rattle.std.proofs.Common.{◌≡◌, ◌≢◌, ℕ, List, IfOk, IfErr, Err, subst}
use Rattle.ct_kind.specs.declared.fault.SubmitFault.TheVariants as fault
use Rattle.ct_piece.specs.Submission.{submitted, AddsPiece}
use Rattle.ct_pieces.proofs.pieces.Pieces.submit.Goals as goal

pub returns-clause-accepted : goal.returns-clause-accepted
returns-clause-accepted c =
    subst (λ (text : List ℕ). IfOk c.submit_text.result (λ made. AddsPiece c.args.self.now c.submit_text.new.self c.args.id text made.size))
    c.in_ok-text.ensures c.submit_text.ensures.accepted

pub returns-clause-fault : goal.returns-clause-fault
returns-clause-fault c =
    subst (λ (text : List ℕ). IfErr c.submit_text.result (λ f. f ≢ fault.Memory → submitted c.args.self.now c.args.id text ≡ Err f))
    c.in_ok-text.ensures c.submit_text.ensures.fault

pub returns-clause-supports : goal.returns-clause-supports
returns-clause-supports c = c.submit_text.ensures.supports

pub returns-clause-standing : goal.returns-clause-standing
returns-clause-standing c = c.submit_text.ensures.standing

pub returns-clause-unchanged : goal.returns-clause-unchanged
returns-clause-unchanged c = c.submit_text.ensures.unchanged
