-- What a run over bytes in memory gives.
use Rattle.std.specs.Prelude.{◌≡◌, ◌⊎◌, ◌<◌, ◌≤◌, ℕ, Bool, true, List, length, Option, Some, None}
use Rattle.ct_io.specs.declared.TheConstants.{MAX_INPUT}
use Rattle.ct_command_line.specs.declared.mode.Mode.{Mode}
use Rattle.ct_run.specs.Mode.{reads, status_of, IsOutput}
use Rattle.ct_run.specs.Program.{usage_line}
use Rattle.ct_run.specs.Truth.{IsTrueOutput}
use Rattle.ct_run.specs.declared.status.Status.{Status}
use Rattle.ct_run.specs.declared.status.Status.TheVariants as status

-- the mode reads the input, and this has more than MAX_INPUT bytes
pub record IsTooLong (mode : Mode) (input : List ℕ) : Type 0 where
  pub read : reads mode ≡ true
  pub long : MAX_INPUT < length input

-- the output is one of the mode on the input, which is within the limit, with its status, and what it says of codes is true
pub record IsWholeOutput (mode : Mode) (input output : List ℕ) (result : Status) : Type 0 where
  pub within : reads mode ≡ true → length input ≤ MAX_INPUT
  pub refused : Bool
  pub run : IsOutput mode input output refused
  pub status : result ≡ status_of refused
  pub truth : IsTrueOutput mode input output

-- what the run of the named mode on an input gives: without a mode the usage line; of an input that is too long, that it is; else an output
abbrev pub IsAnswer : Option Mode → List ℕ → List ℕ → Status → Type 0
IsAnswer None input output result = (result ≡ status.Usage) × (output ≡ usage_line)
IsAnswer (Some mode) input output result = (IsTooLong mode input × (result ≡ status.TooLong)) ⊎ IsWholeOutput mode input output result
