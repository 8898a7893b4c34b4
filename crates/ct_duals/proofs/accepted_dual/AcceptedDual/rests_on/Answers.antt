-- The premises of the dual are those of its entry and its pairs.
use Rattle.std.proofs.Common.{◌↔◌, ◌≤◌, All, IsTrue, Contains, sym, subst}
use Rattle.ct_words.specs.declared.limits.TheConstants.{MAX_N}
use Rattle.ct_duals.specs.Bound.{AcceptedValue, dual_premises}
use Rattle.ct_duals.proofs.Premises.{premises, small_indices}
use Rattle.ct_duals.proofs.accepted_dual.AcceptedDual.rests_on.Goals as goal

pub is_premise-requires-clause-indices : goal.is_premise-requires-clause-indices
is_premise-requires-clause-indices c =
    subst (λ y. All (λ p. p.0 ≤ MAX_N) y) (sym c.as_slice.ensures) (small_indices c.self.inside.dual c.self.invariant.accepted.form)

pub returns : goal.returns
returns c =
    subst (λ (a : AcceptedValue). IsTrue c.is_premise.result ↔ Contains (dual_premises a.dual) c.args.entry) c.self.view_is
    (subst (λ y. IsTrue c.is_premise.result ↔ Contains (premises c.self.inside.dual.entry y) c.args.entry) c.as_slice.ensures c.is_premise.ensures)
