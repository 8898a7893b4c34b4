use Rattle.std.proofs.Common.{refl}
use Rattle.ct_finder.specs.Run.{run_dual}
use Rattle.ct_finder.proofs.RunDuals.{dual-form, dual-accepted, bound-without, least-of, narrow-of}
use Rattle.ct_laws.proofs.math.finder.least_duals_are_accepted.Goals as goal

pub returns-clause-form : goal.returns-clause-form
returns-clause-form c = λ number e even pivots cost asked ends. dual-form number e even cost asked (least-of number e even pivots cost ends) (narrow-of number e even pivots cost ends)

pub returns-clause-accepted : goal.returns-clause-accepted
returns-clause-accepted c = λ number e even pivots cost ones ends. dual-accepted number e even cost ones (least-of number e even pivots cost ends)

pub returns-clause-bound : goal.returns-clause-bound
returns-clause-bound c = λ e even cost at_zero. bound-without (run_dual e even cost) at_zero refl
