-- What follows from a text line of a derivation document.
use Rattle.std.specs.Prelude.{ℕ}
use Rattle.ct_verify.specs.Inside.Read.{ReadingValue}
use Rattle.ct_verify.specs.declared.verdict.Why.{Why}

-- what was read, with this line; or the text line that fails, counted from 1, and why
pub data AfterLine : Type 0 where
  On : ReadingValue → AfterLine
  Failed : ℕ → Why → AfterLine
