use Rattle.ct_rules.proofs.BestValues.{closed_true_bounds_exist}
use Rattle.ct_rules.proofs.ClosedBounds.{closed_bounds_are_best_possible, closed_bound_is_best, best_values_are_closed}
use Rattle.ct_laws.proofs.derivations.closed_bounds_are_best.Goals as goal

pub returns : goal.returns
returns c = record {
  within = closed_bounds_are_best_possible;
  best = closed_bound_is_best;
  closed = best_values_are_closed;
  exist = closed_true_bounds_exist;
}
