-- The bound that an accepted dual of an entry with weight gives, from bounds of the doubly constant codes that lie about a word (Johnson 1972;
-- Agrell, Vardy and Zeger 2000).
use Rattle.std.specs.Prelude.{ℕ, ◌-◌, ◌/◌, min, List, [], ◌∷◌, ℤ, pos, ◌+ℤ◌}
use Rattle.std.specs.List.{sum_by}
use Rattle.ct_words.specs.declared.limits.TheConstants.{MAX_BOUND}
use Rattle.ct_words.specs.declared.entry.Entry.{Entry}
use Rattle.ct_words.specs.Numbers.{multiplier}
use Rattle.ct_words.specs.Doubly.{IsTrueDoublyUpper}
use Rattle.ct_duals.specs.declared.dual.Dual.{Dual}
use Rattle.ct_duals.specs.Bound.{natural, positive, charges}

-- u bounds the words at index i from a word of weight w: that word added, they have i ones among its w ones and i among its n - w zeros
abbrev pub IsTrueLocal : Entry → ℕ → ℕ → ℕ → Type 0
IsTrueLocal e w i u = IsTrueDoublyUpper w i (e.n - w) i e.d u

-- each of the indices has such a bound at its place
abbrev pub AreTrueLocals : Entry → ℕ → List (ℕ × ℤ) → List ℕ → Type 0
AreTrueLocals e w [] [] = Unit {0}
AreTrueLocals e w (p ∷ ps) (u ∷ us) = IsTrueLocal e w p.0 u × AreTrueLocals e w ps us
AreTrueLocals e w ps us = ⊥

-- the sum of y_i · U_i
abbrev pub local_charge : List (ℕ × ℤ) → List ℕ → ℕ
local_charge y uppers = sum_by (λ p. p.1) (charges (positive y) uppers)

-- the least of MAX_BOUND and ⌊(f(0) + Σ y_i·U_i)/c_0⌋
unfoldable pub local_bound : Dual → ℤ → List ℕ → ℕ
local_bound d at_zero uppers = min MAX_BOUND (natural (at_zero +ℤ pos (local_charge d.y uppers)) / natural (multiplier d.c 0))
