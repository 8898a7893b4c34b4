use Rattle.std.proofs.Common.{inl}
use Rattle.std.proofs.lemmas.Result.{on_ok_weaker}
use Rattle.ct_io.proofs.BufferedLemmas.{puts_none}
use Rattle.ct_session.proofs.serve.make_ready.Goals as goal

pub returns-then-holds_line-clause-put : goal.returns-then-holds_line-clause-put
returns-then-holds_line-clause-put g c = puts_none _

pub returns-clause-ready : goal.returns-clause-ready
returns-clause-ready g c = on_ok_weaker c.flush.result (λ none. inl none) c.flush.ensures.emptied
