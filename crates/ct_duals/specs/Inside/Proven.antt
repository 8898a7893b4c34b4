-- What the code of an accepted dual keeps of it.
use Rattle.std.specs.Prelude.{ℕ, ◌^◌, ◌<◌, ◌≡◌, List, Some, ◌≤ℤ◌, unsigned_abs}
use Rattle.ct_words.specs.Code.{IsTrueUpper}
use Rattle.ct_words.specs.Numbers.{numbers_of, multiplier, combination}
use Rattle.ct_duals.specs.Bound.{AcceptedValue, IsAccepted, AreTrueUppers, positive, dual_premises, dual_spread, IsSpread, dual_bound}
use Rattle.ct_duals.specs.Local.{AreTrueLocals, local_bound}

-- the dual stands; and, by the law of the scheme in which it was checked, f(0) is at least c_0, sums with it fit the
-- code's numbers, f adds up to at most the spread for each word of a code, and no code of its entry is larger than its bound, nor than its
-- local bound
pub record IsProven (a : AcceptedValue) : Type 0 where
  pub accepted : IsAccepted a
  pub least : multiplier a.dual.c 0 ≤ℤ a.at_zero
  pub small : unsigned_abs a.at_zero < 2 ^ 116
  pub spread : (uppers : List ℕ) → AreTrueUppers (dual_premises a.dual) uppers
      → IsSpread a.dual.entry (combination (numbers_of a.dual.entry) a.dual.c) (dual_spread a.dual a.at_zero uppers)
  pub sound : (uppers : List ℕ) → AreTrueUppers (dual_premises a.dual) uppers → IsTrueUpper a.dual.entry (dual_bound a.dual a.at_zero uppers)
  pub local : (w : ℕ) → a.dual.entry.w ≡ Some w → (uppers : List ℕ) → AreTrueLocals a.dual.entry w (positive a.dual.y) uppers
      → IsTrueUpper a.dual.entry (local_bound a.dual a.at_zero uppers)
