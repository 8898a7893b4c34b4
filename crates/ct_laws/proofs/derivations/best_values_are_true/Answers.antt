use Rattle.ct_rules.proofs.BestValues.{best_is_true, best_in_order, equal_is_best}
use Rattle.ct_laws.proofs.derivations.best_values_are_true.Goals as goal

pub returns : goal.returns
returns c = record { true_bound = best_is_true; in_order = best_in_order; equal = equal_is_best }
