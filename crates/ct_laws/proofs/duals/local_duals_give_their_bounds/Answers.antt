use Rattle.std.proofs.Common.{refl}
use Rattle.ct_words.specs.Numbers.{johnson}
use Rattle.ct_duals.specs.Check.{dual_fault}
use Rattle.ct_laws.proofs.DualReasons.{local_gives, local_gives_nothing}
use Rattle.ct_laws.proofs.duals.local_duals_give_their_bounds.Goals as goal

pub returns-clause-accepted : goal.returns-clause-accepted
returns-clause-accepted c = λ text d size checked. local_gives text d size checked

pub returns-clause-refused : goal.returns-clause-refused
returns-clause-refused c = λ text d reason size refused. local_gives_nothing text d reason size refused

pub returns-clause-known : goal.returns-clause-known
unfolding dual_fault johnson
returns-clause-known c = λ size. refl
