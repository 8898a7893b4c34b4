use Rattle.ct_session.proofs.Endings.{ends_at_once}
use Rattle.ct_run.proofs.serving.serve_ledger.Goals as goal

pub returns-in_default : goal.returns-in_default
returns-in_default g c = ends_at_once _ _ _ _
