use Rattle.ct_weight_rules.proofs.LawfulLocalDuals.{checked_local-true}
use Rattle.ct_weight_rules.proofs.local_duals.local_duals_bound_codes.Goals as goal

pub returns : goal.returns
returns c = checked_local-true
