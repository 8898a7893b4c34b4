use Rattle.ct_io.proofs.BufferedLemmas.{is_put_last}
use Rattle.ct_session.proofs.serve.put_last.Goals as goal

pub returns-clause-put : goal.returns-clause-put
returns-clause-put g c = is_put_last _ _ _ _ _ c.in_ok-put.ensures.put c.flush.ensures.put
