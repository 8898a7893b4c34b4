use Rattle.std.proofs.Common.{refl}
use Rattle.ct_duals.specs.Bound.{dual_bound}
use Rattle.ct_weight_rules.proofs.delsarte.known_dual_above.Goals as goal

pub returns-clause-value : goal.returns-clause-value
unfolding dual_bound
returns-clause-value c = refl
