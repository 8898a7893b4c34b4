use Rattle.std.proofs.Common.{◌≡◌, ◌||◌, ◌∷◌, ◌++◌, [], Bool, ap, sym, subst, ◌∙◌}
use Rattle.ct_replies.specs.LongReply.{owed_text}
use Rattle.ct_session.specs.Inside.State.{State, PutsLines}
use Rattle.ct_session.proofs.Answering.{puts_line}
use Rattle.ct_session.proofs.session.Session.take_line.Goals as goal
use Rattle.ct_session.proofs.session.Session.take_line.Goals.{then-self, else-self}

pub returns-clause-line : goal.returns-clause-line
returns-clause-line g c =
    let refused = c.in_ok-owed.refused in
    let mark : c.if-self.self ≡ (c.self.inside.refused || refused) =
    elim c.if-self.branch [
      | then-self w ↦ w.self-is ∙ w.if-self.true ∙ sym (ap (λ (b : Bool). b || refused) w.if-self.true)
      | else-self w ↦ w.self-is ∙ sym (ap (λ (b : Bool). b || refused) w.if-self.false)
    ] in
    let e = c.in_ok-owed.ensures in
    let t : State = record { pieces = g.A.Answers.standing c.respond_to_any.new.answers; pending = c.take_line.new.self; refused = c.if-self.self } in
    let after = c.respond_to_any.new.replies.items ++ owed_text c.in_ok-owed.owed (g.A.Answers.standing c.respond_to_any.new.answers) in
    subst (λ (s : State). PutsLines s t (c.args.line.now ∷ []) c.args.replies.now.items after) c.self.view_is
    (puts_line _ t c.args.line.now c.args.replies.now.items after c.in_ok-command.command refused
    c.in_ok-command.ensures.command c.in_ok-command.ensures.pending e.reply e.pieces mark)

pub returns-clause-unput : goal.returns-clause-unput
returns-clause-unput g c = c.in_ok-owed.ensures.unput
