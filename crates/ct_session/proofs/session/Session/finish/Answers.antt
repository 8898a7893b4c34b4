use Rattle.std.proofs.Common.{true, false, sym, ap, ◌∙◌}
use Rattle.std.proofs.Math.Bool.{or-false}
use Rattle.ct_commands.specs.Command.{cut_off}
use Rattle.ct_session.specs.Inside.State.{State}
use Rattle.ct_session.proofs.Answering.{none_cut, cut_answers, or_true}
use Rattle.ct_session.proofs.session.Session.finish.Goals as goal

pub returns-in-None-clause-end : goal.returns-in-None-clause-end
returns-in-None-clause-end g c =
    let s = c.args.self in
    let none = c.in-None.ensures ∙ ap (λ (t : State). cut_off t.pending) c.self.view_is in
    (false, none_cut s.pieces s.pending c.args.replies.now.items none, ap (λ (t : State). t.refused) c.self.view_is ∙ sym (or-false s.refused))

pub returns-clause-end : goal.returns-clause-end
returns-clause-end g c =
    let s = c.args.self in
    let one = c.in-Some.ensures ∙ ap (λ (t : State). cut_off t.pending) c.self.view_is in
    let cut = cut_answers s.pieces s.pending c.in-Some.field-0 c.args.replies.now.items one in
    (true, (cut.0, cut.1, c.in_ok-put_reply-in-Some.ensures.ok ∙ cut.2), or_true s.refused)
