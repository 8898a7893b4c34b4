use Rattle.std.proofs.Common.{subst, sym, ◌∷◌, [], ◌∙◌, append-nil}
use Rattle.ct_session.specs.Run.{AnswersCommands}
use Rattle.ct_replies.specs.Text.{reply_text}
use Rattle.ct_session.proofs.Answering.{one_answer, long_answers}
use Rattle.ct_session.proofs.session.respond.Goals as goal

pub returns-in_ok-put_reply-in-Short-clause-reply : goal.returns-in_ok-put_reply-in-Short-clause-reply
returns-in_ok-put_reply-in-Short-clause-reply g c =
    let r = c.in-Short.reply in
    let pieces = g.A.Answers.standing c.args.answers.now in
    let is = rw c.in-Short.is at c.in_ok-reply.ensures.reply in (
      reply_text r,
      subst (AnswersCommands pieces (c.args.command ∷ []) (reply_text r)) (sym c.is_refusal.ensures) (one_answer pieces c.args.command r is),
      append-nil c.put_reply.new.text.items ∙ c.in_ok-put_reply-in-Short.ensures.ok,
    )

pub returns-in-Long-clause-reply : goal.returns-in-Long-clause-reply
returns-in-Long-clause-reply g c =
    let is = rw c.in-Long.is at c.in_ok-reply.ensures.reply in
    long_answers (g.A.Answers.standing c.args.answers.now) (g.A.Answers.standing c.answer.new.self) c.args.command c.in-Long.reply c.args.replies.now.items is

pub returns-in_ok-put_reply-in-Short-clause-pieces : goal.returns-in_ok-put_reply-in-Short-clause-pieces
returns-in_ok-put_reply-in-Short-clause-pieces g c = c.in_ok-reply.ensures.pieces

pub returns-in-Long-clause-pieces : goal.returns-in-Long-clause-pieces
returns-in-Long-clause-pieces g c = c.in_ok-reply.ensures.pieces
