use Rattle.std.proofs.Common.{refl}
use Rattle.ct_words.specs.Numbers.{krawtchouk, johnson}
use Rattle.ct_duals.specs.Check.{dual_fault}
use Rattle.ct_duals.specs.Bound.{dual_bound}
use Rattle.ct_laws.proofs.math.delsarte.known_duals.Goals as goal

pub returns-clause-accepted : goal.returns-clause-accepted
unfolding dual_fault krawtchouk
returns-clause-accepted c = refl

pub returns-clause-at_zero : goal.returns-clause-at_zero
unfolding krawtchouk
returns-clause-at_zero c = refl

pub returns-clause-bound : goal.returns-clause-bound
unfolding dual_bound
returns-clause-bound c = refl

pub returns-clause-weighted : goal.returns-clause-weighted
unfolding dual_fault johnson
returns-clause-weighted c = refl

pub returns-clause-weighted_bound : goal.returns-clause-weighted_bound
unfolding dual_bound
returns-clause-weighted_bound c = refl
