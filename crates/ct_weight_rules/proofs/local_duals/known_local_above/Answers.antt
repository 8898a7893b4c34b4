use Rattle.std.proofs.Common.{refl}
use Rattle.ct_duals.specs.Local.{local_bound}
use Rattle.ct_johnson.specs.Bounds.{least_from}
use Rattle.ct_doubly.specs.Doubly.{doubly_after}
use Rattle.ct_weight_rules.proofs.local_duals.known_local_above.Goals as goal

pub returns-clause-value : goal.returns-clause-value
unfolding local_bound doubly_after least_from
returns-clause-value c = refl

pub returns-clause-by_premise : goal.returns-clause-by_premise
unfolding local_bound doubly_after least_from
returns-clause-by_premise c = refl

pub returns-clause-doubly : goal.returns-clause-doubly
unfolding doubly_after least_from
returns-clause-doubly c = refl

pub returns-clause-all_indices : goal.returns-clause-all_indices
unfolding doubly_after least_from
returns-clause-all_indices c = refl

pub returns-clause-all : goal.returns-clause-all
unfolding local_bound doubly_after least_from
returns-clause-all c = refl
