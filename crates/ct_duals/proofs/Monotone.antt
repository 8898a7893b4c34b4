-- Smaller upper bounds never give a greater spread, nor a greater bound.
use Rattle.std.proofs.Common.{ℕ, zero, suc, ◌+◌, ◌*◌, ◌/◌, ◌≤◌, Bool, true, false, cond, List, [], ◌∷◌, arith}
use Rattle.std.specs.Prelude.{min, ℤ, pos, negsuc, ◌+ℤ◌, ◌≤ℤ◌}
use Rattle.std.proofs.lemmas.Int.{ints}
use Rattle.std.proofs.lemmas.Nat.{mul-le, le-div}
use Rattle.std.proofs.Math.Nat.{div-mul-le_self}
use Rattle.ct_words.specs.declared.limits.TheConstants.{MAX_BOUND}
use Rattle.ct_words.specs.declared.entry.Entry.{Entry}
use Rattle.ct_duals.specs.declared.dual.Dual.{Dual}
use Rattle.ct_words.specs.Numbers.{multiplier}
use Rattle.ct_duals.specs.Bound.{natural, positive, charges, is_far, near_charge, far_charge, dual_spread, dual_bound, AreAtMost}
use Rattle.ct_duals.proofs.Charges.{near_charge-first, far_charge-first}

charges-le : (e : Entry) (ps : List (ℕ × ℤ)) (us vs : List ℕ) → AreAtMost us vs
    → (near_charge e (charges ps us) ≤ near_charge e (charges ps vs)) × (far_charge e (charges ps us) ≤ far_charge e (charges ps vs))
charges-le e [] us vs h = (omega arith, omega arith)
charges-le e (p ∷ ps) [] [] h = (omega arith, omega arith)
charges-le e (p ∷ ps) [] (v ∷ vs) h = absurd h
charges-le e (p ∷ ps) (u ∷ us) [] h = absurd h
charges-le e (p ∷ ps) (u ∷ us) (v ∷ vs) h =
    let rest = charges-le e ps us vs h.1 in
    let sum = rest.0 in
    let top = rest.1 in
    let product = mul-le (natural p.1) u (natural p.1) v (omega arith) h.0 in
    let near_u = near_charge-first e p.0 (natural p.1 * u) (charges ps us) in
    let near_v = near_charge-first e p.0 (natural p.1 * v) (charges ps vs) in
    let far_u = far_charge-first e p.0 (natural p.1 * u) (charges ps us) in
    let far_v = far_charge-first e p.0 (natural p.1 * v) (charges ps vs) in
    let first = out_le (is_far e p.0) product in
    let second = in_le (is_far e p.0) product in
    (omega arith, omega arith)
  where
    out_le : (b : Bool) {m n : ℕ} → m ≤ n → cond b 0 m ≤ cond b 0 n
    out_le true h = omega arith
    out_le false h = h

    in_le : (b : Bool) {m n : ℕ} → m ≤ n → cond b m 0 ≤ cond b n 0
    in_le true h = h
    in_le false h = omega arith

natural-le : (y z : ℤ) → y ≤ℤ z → natural y ≤ natural z
natural-le (pos m) (pos n) h = omega (arith, ints)
natural-le (pos m) (negsuc n) h = absurd (omega (arith, ints))
natural-le (negsuc m) (pos n) h = omega arith
natural-le (negsuc m) (negsuc n) h = omega arith

-- a quotient grows with what is divided
div-le : (m n c : ℕ) → m ≤ n → m / c ≤ n / c
div-le m n zero h = omega arith
div-le m n (suc c) h =
    let part = div-mul-le_self m (suc c) in
    le-div (m / suc c) n (suc c) (omega arith) (omega arith)

pub dual_spread-monotone : (d : Dual) (at_zero : ℤ) (us vs : List ℕ) → AreAtMost us vs → dual_spread d at_zero us ≤ℤ dual_spread d at_zero vs
dual_spread-monotone d at_zero us vs h =
    let both = charges-le d.entry (positive d.y) us vs h in
    let first = both.0 in
    let second = both.1 in
    let r = near_charge d.entry (charges (positive d.y) us) + far_charge d.entry (charges (positive d.y) us) in
    let s = near_charge d.entry (charges (positive d.y) vs) + far_charge d.entry (charges (positive d.y) vs) in
    let grown : r ≤ s = omega arith in
    omega (arith, ints)

quotient-le : (lead y z : ℤ) → y ≤ℤ z → min MAX_BOUND (natural y / natural lead) ≤ min MAX_BOUND (natural z / natural lead)
quotient-le lead y z h =
    let sum = natural-le y z h in
    let quotient = div-le (natural y) (natural z) (natural lead) sum in
    omega arith

-- where less is allowed, ⌊(f(0) + r)/c_0⌋ is no greater
pub allowing_bound-le : (d : Dual) (at_zero : ℤ) (r s : ℕ) → r ≤ s
    → min MAX_BOUND (natural (at_zero +ℤ pos r) / natural (multiplier d.c 0)) ≤ min MAX_BOUND (natural (at_zero +ℤ pos s) / natural (multiplier d.c 0))
allowing_bound-le d at_zero r s h = quotient-le (multiplier d.c 0) (at_zero +ℤ pos r) (at_zero +ℤ pos s) (omega (arith, ints))

pub dual_bound-monotone : (d : Dual) (at_zero : ℤ) (us vs : List ℕ) → AreAtMost us vs → dual_bound d at_zero us ≤ dual_bound d at_zero vs
unfolding dual_bound
dual_bound-monotone d at_zero us vs h =
    quotient-le (multiplier d.c 0) (dual_spread d at_zero us) (dual_spread d at_zero vs) (dual_spread-monotone d at_zero us vs h)
