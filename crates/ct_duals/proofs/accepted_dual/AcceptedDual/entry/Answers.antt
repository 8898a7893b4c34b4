-- It rests on few entries.
use Rattle.std.proofs.Common.{◌≤◌, length, subst}
use Rattle.ct_words.specs.declared.limits.TheConstants.{MAX_N}
use Rattle.ct_duals.specs.Bound.{AcceptedValue, dual_premises}
use Rattle.ct_duals.proofs.Premises.{premises_few}
use Rattle.ct_duals.proofs.accepted_dual.AcceptedDual.entry.Goals as goal

pub returns-clause-few : goal.returns-clause-few
returns-clause-few c =
    subst (λ (a : AcceptedValue). length (dual_premises a.dual) ≤ MAX_N) c.self.view_is (premises_few c.self.inside.dual c.self.invariant.accepted.form)
