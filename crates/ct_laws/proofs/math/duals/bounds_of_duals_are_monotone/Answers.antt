use Rattle.ct_duals.proofs.Monotone.{dual_spread-monotone, dual_bound-monotone}
use Rattle.ct_duals.proofs.LocalBound.{local_bound-monotone}
use Rattle.ct_laws.proofs.math.duals.bounds_of_duals_are_monotone.Goals as goal

pub returns : goal.returns
returns c = record { spread = dual_spread-monotone; bound = dual_bound-monotone; local = local_bound-monotone }
