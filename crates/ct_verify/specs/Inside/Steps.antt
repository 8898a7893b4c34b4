-- How a text line was read.
use Rattle.std.specs.Prelude.{ℕ, ◌==◌, ◌&&◌, not, Bool, List, length, Option, Some, None, codes}
use Rattle.ct_verify.specs.Inside.Read.{ReadingValue}
use Rattle.ct_verify.specs.Inside.Reading.{is_only}
use Rattle.ct_verify.specs.Inside.Step.{AfterLine, On, Failed}
use Rattle.ct_verify.specs.declared.failure.Failure.{Failure}

-- a failure, or else this that was read
abbrev pub step_of : Option Failure → ReadingValue → AfterLine
step_of None r = On r
step_of (Some failure) r = Failed failure.line failure.why

-- whether words end the document: `done`, after a line
abbrev pub is_end : ReadingValue → List (List ℕ) → Bool
is_end r words = is_only (codes "done") words && not (length r.lines == 0)
