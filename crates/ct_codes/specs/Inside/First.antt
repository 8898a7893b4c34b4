-- The first of some numbers that passes a test.
use Rattle.std.specs.Prelude.{ℕ, ◌≤◌, ◌<◌, Bool, Option, MatchOption, IsTrue, IsFalse}

-- no number from low on and below high passes the test
abbrev pub NonePasses : (ℕ → Bool) → ℕ → ℕ → Type 0
NonePasses test low high = (k : ℕ) → low ≤ k → k < high → IsFalse (test k)

-- the number is the first from low on and below high that passes the test
pub record IsFirst (test : ℕ → Bool) (low high k : ℕ) : Type 0 where
  pub from : low ≤ k
  pub within : k < high
  pub passes : IsTrue (test k)
  pub none_before : NonePasses test low k

-- the option has the first that passes, and none where none does
abbrev pub IsFirstOrNone : (ℕ → Bool) → ℕ → ℕ → Option ℕ → Type 0
IsFirstOrNone test low high found = MatchOption found (NonePasses test low high) (IsFirst test low high)
