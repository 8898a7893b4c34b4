-- Each is computed.
use Rattle.std.proofs.Common.{refl}
use Rattle.ct_johnson.specs.Bounds.{least_from}
use Rattle.ct_doubly.specs.Doubly.{doubly_after}
use Rattle.ct_laws.proofs.math.doubly.known_doubly_bounds.Goals as goal

pub returns-clause-alone : goal.returns-clause-alone
unfolding doubly_after least_from
returns-clause-alone c = refl

pub returns-clause-as_far : goal.returns-clause-as_far
unfolding doubly_after least_from
returns-clause-as_far c = refl

pub returns-clause-halves : goal.returns-clause-halves
unfolding doubly_after least_from
returns-clause-halves c = refl

pub returns-clause-counted : goal.returns-clause-counted
unfolding doubly_after least_from
returns-clause-counted c = refl

pub returns-clause-first_one : goal.returns-clause-first_one
unfolding doubly_after least_from
returns-clause-first_one c = refl

pub returns-clause-first_zero : goal.returns-clause-first_zero
unfolding doubly_after least_from
returns-clause-first_zero c = refl

pub returns-clause-last_one : goal.returns-clause-last_one
unfolding doubly_after least_from
returns-clause-last_one c = refl

pub returns-clause-last_zero : goal.returns-clause-last_zero
unfolding doubly_after least_from
returns-clause-last_zero c = refl

pub returns-clause-rounds : goal.returns-clause-rounds
unfolding doubly_after least_from
returns-clause-rounds c = refl

pub returns-clause-rounded_down : goal.returns-clause-rounded_down
unfolding doubly_after least_from
returns-clause-rounded_down c = refl
