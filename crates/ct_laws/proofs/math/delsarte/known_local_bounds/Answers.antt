use Rattle.std.proofs.Common.{refl}
use Rattle.ct_words.specs.Numbers.{johnson}
use Rattle.ct_duals.specs.Check.{dual_fault}
use Rattle.ct_duals.specs.Bound.{dual_bound}
use Rattle.ct_duals.specs.Local.{local_bound}
use Rattle.ct_duals.specs.Examples.{eight_local}
use Rattle.ct_duals.proofs.Faults.{accepted-from_none}
use Rattle.ct_duals.proofs.FormLemmas.{form-from}
use Rattle.ct_laws.proofs.math.delsarte.known_local_bounds.Goals as goal

pub returns-clause-accepted : goal.returns-clause-accepted
unfolding dual_fault johnson
returns-clause-accepted c = refl

pub returns-clause-at_zero : goal.returns-clause-at_zero
unfolding johnson
returns-clause-at_zero c = refl

pub returns-clause-bound : goal.returns-clause-bound
unfolding local_bound
returns-clause-bound c = refl

pub returns-clause-greater : goal.returns-clause-greater
unfolding local_bound
returns-clause-greater c = refl

pub returns-clause-above : goal.returns-clause-above
unfolding dual_fault johnson
returns-clause-above c = refl

pub returns-clause-ones_accepted : goal.returns-clause-ones_accepted
unfolding dual_fault johnson
returns-clause-ones_accepted c = refl

pub returns-clause-all : goal.returns-clause-all
unfolding local_bound
returns-clause-all c = refl

pub returns-clause-in_group : goal.returns-clause-in_group
unfolding dual_bound
returns-clause-in_group c = refl

pub returns-clause-rests_on : goal.returns-clause-rests_on
returns-clause-rests_on c = refl

pub returns-clause-stands : goal.returns-clause-stands
unfolding dual_fault johnson
returns-clause-stands c = accepted-from_none eight_local (form-from eight_local refl) refl
