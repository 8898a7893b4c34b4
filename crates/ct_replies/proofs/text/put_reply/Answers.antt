use Rattle.ct_replies.proofs.Puts.{none-at-err, none-at-ok}
use Rattle.ct_replies.proofs.text.put_reply.Goals as goal

pub returns-then-is_err-clause-ok : goal.returns-then-is_err-clause-ok
returns-then-is_err-clause-ok c = none-at-err c.put_lines-put.result _ c.if-is_err.ensures.value

pub returns-else-is_err-clause-err : goal.returns-else-is_err-clause-err
returns-else-is_err-clause-err c = none-at-ok c.put_lines-put.result _ c.if-is_err.ensures.value
