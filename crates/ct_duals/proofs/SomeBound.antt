-- The bound of a sound dual is at least 1.
use Rattle.std.proofs.Common.{◌≡◌, ℕ, ◌+◌, ◌/◌, ◌≤◌, List, ap, arith}
use Rattle.std.specs.Prelude.{min, pos, ◌+ℤ◌, ◌≤ℤ◌}
use Rattle.std.proofs.lemmas.Int.{ints}
use Rattle.std.proofs.lemmas.Nat.{le-div}
use Rattle.ct_words.specs.declared.limits.TheConstants.{MAX_BOUND}
use Rattle.ct_words.specs.Numbers.{multiplier}
use Rattle.ct_duals.specs.Bound.{AcceptedValue, natural, positive, charges, near_charge, far_charge, dual_bound}
use Rattle.ct_duals.proofs.Allowed.{natural-is}

-- whatever is allowed, ⌊(f(0) + r)/c_0⌋ is at least 1
pub allowing_bound-some : (a : AcceptedValue) (r : ℕ) → pos 1 ≤ℤ multiplier a.dual.c 0 → multiplier a.dual.c 0 ≤ℤ a.at_zero
    → 1 ≤ min MAX_BOUND (natural (a.at_zero +ℤ pos r) / natural (multiplier a.dual.c 0))
allowing_bound-some a r lead least =
    let c = natural (multiplier a.dual.c 0) in
    let z = natural a.at_zero in
    let lead_is : multiplier a.dual.c 0 ≡ pos c = natural-is (multiplier a.dual.c 0) (omega (arith, ints)) in
    let start : a.at_zero ≡ pos z = natural-is a.at_zero (omega (arith, ints)) in
    let some : 1 ≤ c = omega (arith, ints) in
    let enough : c ≤ z = omega (arith, ints) in
    let sum : natural (a.at_zero +ℤ pos r) ≡ z + r = ap (λ w. natural (w +ℤ pos r)) start in
    let quotient = le-div 1 (natural (a.at_zero +ℤ pos r)) c some (omega arith) in
    omega arith

pub dual_bound-some : (a : AcceptedValue) (us : List ℕ) → pos 1 ≤ℤ multiplier a.dual.c 0 → multiplier a.dual.c 0 ≤ℤ a.at_zero
    → 1 ≤ dual_bound a.dual a.at_zero us
unfolding dual_bound
dual_bound-some a us lead least =
    let cs = charges (positive a.dual.y) us in
    allowing_bound-some a (near_charge a.dual.entry cs + far_charge a.dual.entry cs) lead least
