-- What an explanation of a bound of a table holds.
use Rattle.std.specs.Prelude.{◌≡◌, ℕ, ◌<◌, List, All, slice_get, Some}
use Rattle.ct_rules.specs.Derivation.{LineValue}

-- lines of a derivation, and the places of the pieces of evidence that they need
pub record DerivationValue : Type 0 where
  pub pieces : List ℕ
  pub lines : List LineValue

-- each line names lines before it alone
abbrev pub AreOrdered : List LineValue → Type 0
AreOrdered lines = (i : ℕ) (l : LineValue) → slice_get lines i ≡ Some l → All (λ p. p < i) l.from
