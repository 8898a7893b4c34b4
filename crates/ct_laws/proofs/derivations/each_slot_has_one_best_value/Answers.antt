use Rattle.ct_rules.proofs.BestValues.{best_exists}
use Rattle.ct_rules.proofs.ClosedBounds.{best_is_one}
use Rattle.ct_laws.proofs.derivations.each_slot_has_one_best_value.Goals as goal

pub returns : goal.returns
returns c = record { exists = best_exists; one = best_is_one }
