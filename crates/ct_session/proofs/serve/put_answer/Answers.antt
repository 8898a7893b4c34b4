use Rattle.std.proofs.lemmas.Result.{err_from_is_err_and}
use Rattle.ct_io.proofs.BufferedLemmas.{puts_none, is_put_then, puts_then, stops_sooner}
use Rattle.ct_replies.specs.LongReply.{owed_text}
use Rattle.ct_session.proofs.serve.put_answer.Goals as goal

pub returns-in_err-put : goal.returns-in_err-put
returns-in_err-put g c =
    let p = err_from_is_err_and c.from_residual.result c.from_residual.ensures.1 in
    rw p.1 (stops_sooner _ _ c.args.text.now (owed_text c.args.owed (g.A.Answers.standing c.args.answers.now)) c.in_err-put.ensures.put)

pub returns-in-Some : goal.returns-in-Some
returns-in-Some g c = rw c.in-Some.is (is_put_then _ _ _ c.args.text.now _ _ c.in_ok-put.ensures.put c.put_long.ensures)

pub returns-in-None : goal.returns-in-None
returns-in-None g c = rw c.in-None.is (puts_then _ _ _ c.args.text.now _ c.in_ok-put.ensures.put (puts_none _))
