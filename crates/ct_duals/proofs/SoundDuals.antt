-- A dual of an entry of the table that stands is sound: its bound is true, and at least 1; and so is its spread.
use Rattle.std.proofs.Common.{◌≡◌, Some, ℕ, ◌+◌, ◌≤◌, List, sym, subst, arith}
use Rattle.std.specs.Prelude.{ℤ, pos, ◌≤ℤ◌}
use Rattle.std.proofs.lemmas.Int.{ints}
use Rattle.ct_words.specs.Code.{IsTrueUpper}
use Rattle.ct_words.specs.Numbers.{numbers_of, multiplier, combination}
use Rattle.ct_duals.specs.Dual.{IsWordOf, index_of, degree_of}
use Rattle.ct_duals.specs.Bound.{AcceptedValue, IsAccepted, AreTrueUppers, positive, charges, near_charge, far_charge, dual_premises, dual_spread, IsSpread, dual_bound}
use Rattle.ct_duals.specs.Local.{AreTrueLocals, local_bound}
use Rattle.ct_duals.proofs.DualBound.{lead-least, dual_spread-true, dual_bound-true}
use Rattle.ct_duals.proofs.LocalBound.{local_bound-true, local_bound-some}
use Rattle.ct_duals.proofs.Faults.{none-from_accepted}
use Rattle.ct_duals.proofs.SomeBound.{dual_bound-some}
use Rattle.ct_duals.proofs.SchemesOfEntries.{laws_of, fits_of}

-- no code of its entry is larger than its bound, where the upper bounds that it rests on are true
pub accepted-sound : (a : AcceptedValue) → IsAccepted a → (uppers : List ℕ) → AreTrueUppers (dual_premises a.dual) uppers
    → IsTrueUpper a.dual.entry (dual_bound a.dual a.at_zero uppers)
accepted-sound a h uppers known =
    let e = a.dual.entry in
    subst (λ (z : ℤ). IsTrueUpper e (dual_bound a.dual z uppers)) (sym h.at_zero_is)
    (dual_bound-true (IsWordOf e) (index_of e) (degree_of e) (numbers_of e) a.dual (laws_of e.n e.w) (fits_of e) h.form (none-from_accepted a h) uppers known)

-- each code of its entry has as many words as one over whose pairs f adds up to at most the spread for each word, where these are true
pub accepted-spread : (a : AcceptedValue) → IsAccepted a → (uppers : List ℕ) → AreTrueUppers (dual_premises a.dual) uppers
    → IsSpread a.dual.entry (combination (numbers_of a.dual.entry) a.dual.c) (dual_spread a.dual a.at_zero uppers)
accepted-spread a h uppers known =
    let e = a.dual.entry in
    subst (λ (z : ℤ). IsSpread e (combination (numbers_of e) a.dual.c) (dual_spread a.dual z uppers)) (sym h.at_zero_is)
    (dual_spread-true (IsWordOf e) (index_of e) (degree_of e) (numbers_of e) a.dual (laws_of e.n e.w) (fits_of e) h.form (none-from_accepted a h) uppers known)

-- and no code of its entry is larger than its local bound, where the numbers bound the doubly constant codes
pub accepted-local : (a : AcceptedValue) → IsAccepted a → (w : ℕ) → a.dual.entry.w ≡ Some w → (uppers : List ℕ)
    → AreTrueLocals a.dual.entry w (positive a.dual.y) uppers → IsTrueUpper a.dual.entry (local_bound a.dual a.at_zero uppers)
accepted-local a h w is uppers known =
    let e = a.dual.entry in
    subst (λ (z : ℤ). IsTrueUpper e (local_bound a.dual z uppers)) (sym h.at_zero_is)
    (local_bound-true (IsWordOf e) (index_of e) (degree_of e) (numbers_of e) a.dual (laws_of e.n e.w) (fits_of e) h.form (none-from_accepted a h) w is uppers known)

-- its f(0) is at least c_0
accepted-least : (a : AcceptedValue) → IsAccepted a → multiplier a.dual.c 0 ≤ℤ a.at_zero
accepted-least a h =
    let e = a.dual.entry in
    subst (λ (z : ℤ). multiplier a.dual.c 0 ≤ℤ z) (sym h.at_zero_is)
    (lead-least (IsWordOf e) (index_of e) (degree_of e) (numbers_of e) a.dual (laws_of e.n e.w) (fits_of e) h.form)

-- so its spread is at least 1, whatever the upper bounds
pub accepted-some_spread : (a : AcceptedValue) → IsAccepted a → (uppers : List ℕ) → pos 1 ≤ℤ dual_spread a.dual a.at_zero uppers
accepted-some_spread a h uppers =
    let least = accepted-least a h in
    let lead = h.lead in
    let all = charges (positive a.dual.y) uppers in
    let r = near_charge a.dual.entry all + far_charge a.dual.entry all in
    omega (arith, ints)

-- and its bound is at least 1
pub accepted-some : (a : AcceptedValue) → IsAccepted a → (uppers : List ℕ) → 1 ≤ dual_bound a.dual a.at_zero uppers
accepted-some a h uppers = dual_bound-some a uppers h.lead (accepted-least a h)

-- so is its local bound
pub accepted-some_local : (a : AcceptedValue) → IsAccepted a → (uppers : List ℕ) → 1 ≤ local_bound a.dual a.at_zero uppers
accepted-some_local a h uppers = local_bound-some a uppers h.lead (accepted-least a h)
