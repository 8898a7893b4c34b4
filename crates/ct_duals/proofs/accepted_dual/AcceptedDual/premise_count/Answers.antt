-- Few entries, all of the table.
use Rattle.std.proofs.Common.{◌≤◌, All, sym, subst}
use Rattle.ct_words.specs.declared.limits.TheConstants.{MAX_N}
use Rattle.ct_words.specs.Entry.{IsEntry}
use Rattle.ct_duals.specs.Bound.{AcceptedValue, dual_premises}
use Rattle.ct_duals.proofs.Premises.{premises_are_entries, premises_few}
use Rattle.ct_duals.proofs.accepted_dual.AcceptedDual.premise_count.Goals as goal

pub returns-clause-few : goal.returns-clause-few
returns-clause-few c =
    subst (λ k. k ≤ MAX_N) (sym c.premise_count.ensures) (premises_few c.self.inside.dual c.self.invariant.accepted.form)

pub returns-clause-entries : goal.returns-clause-entries
returns-clause-entries c =
    subst (λ (a : AcceptedValue). All IsEntry (dual_premises a.dual)) c.self.view_is (premises_are_entries c.self.inside.dual c.self.invariant.accepted.form)
