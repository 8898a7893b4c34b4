use Rattle.std.proofs.Common.{Bool, cond, ap, ◌∙◌, ℕ}
use Rattle.ct_piece.specs.Withdrawal.{withdrawn}
use Rattle.ct_sample.specs.Run.{RunValue, after_withdrawal}
use Rattle.ct_sample.proofs.Applying.{bit_is, withdrawn_one}
use Rattle.ct_sample.proofs.run.Run.withdraw.Goals as goal

pub returns : goal.returns
returns c =
    let one = c.from.ensures ∙ bit_is c.in_ok-left.left ∙ ap (λ (b : Bool). cond {A = ℕ} b 1 0) c.in_ok-left.ensures.withdrawn in
    withdrawn_one c.self.inside.ledger.pieces c.withdraw_piece.new.ledger.pieces c.self.inside.accepted c.self.inside.withdrawn c.from.result c.args.id
    c.in_ok-left.ensures.pieces one
    ∙ ap (λ (r : RunValue). after_withdrawal r (withdrawn r.pieces c.args.id)) c.self.view_is
