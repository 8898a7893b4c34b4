use Rattle.std.proofs.Common.{refl}
use Rattle.ct_words.specs.Numbers.{krawtchouk}
use Rattle.ct_duals.specs.Check.{dual_fault}
use Rattle.ct_laws.proofs.DualReasons.{odd_gives, odd_gives_nothing}
use Rattle.ct_laws.proofs.duals.odd_duals_give_their_sizes.Goals as goal

pub returns-clause-accepted : goal.returns-clause-accepted
returns-clause-accepted c = λ text d m size checked. odd_gives text d m size checked

pub returns-clause-refused : goal.returns-clause-refused
returns-clause-refused c = λ text d m reason size refused. odd_gives_nothing text d m reason size refused

pub returns-clause-known : goal.returns-clause-known
unfolding dual_fault krawtchouk
returns-clause-known c = λ size. refl
