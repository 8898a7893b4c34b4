-- There is room for the numbers.
use Rattle.std.proofs.Common.{◌≤◌, length, sym, subst}
use Rattle.ct_words.specs.declared.limits.TheConstants.{MAX_N}
use Rattle.ct_rule_parts.proofs.local_dual.LocalDual.bound.Goals as goal

pub put_lesser-count-requires : goal.put_lesser-count-requires
put_lesser-count-requires c = record { room = subst (λ xs. length xs ≤ MAX_N) (sym c.deref.ensures.value) c.self.invariant.1 }
