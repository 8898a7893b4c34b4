use Rattle.ct_session.proofs.Existence.{some_run}
use Rattle.ct_laws.proofs.runs.every_input_has_a_run.Goals as goal

pub returns : goal.returns
returns c = some_run
