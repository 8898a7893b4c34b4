-- The bound is that of the definition, and true.
use Rattle.std.proofs.Common.{◌≤◌, sym, subst, length}
use Rattle.ct_words.specs.declared.limits.TheConstants.{MAX_N}
use Rattle.ct_duals.proofs.DualBound.{few_allowances}
use Rattle.ct_duals.proofs.accepted.Accepted.local_bound.Goals as goal

pub local_charge-charge-requires : goal.local_charge-charge-requires
local_charge-charge-requires c = record {
  few = subst (λ y. length y ≤ MAX_N) (sym c.as_slice.ensures) (few_allowances c.self.inside.dual.now c.self.invariant.accepted.form);
}
