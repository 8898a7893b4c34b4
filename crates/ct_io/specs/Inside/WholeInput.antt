-- What reading a source to its end comes to.
use Rattle.std.specs.Prelude.{◌≡◌, ◌≤◌, ◌<◌, ◌+◌, ◌↔◌, ℕ, List, length, Option, Result, Ok, Err, IfOk, OnOk, Vec}
use Rattle.std.specs.declared.alloc.Global.{Global}
use Rattle.std.specs.Io.KnownBytes.{Consumes, IsAtEnd}
use Rattle.ct_io.specs.declared.TheConstants.{MAX_INPUT, MAX_READ}
use Rattle.ct_io.specs.declared.line_fault.LineFault.{LineFault}
use Rattle.ct_io.specs.declared.line_fault.LineFault.TheVariants.{ReadFault, TooLong, Memory}
use Rattle.ct_io.specs.Faults.{Rose}
use Rattle.ct_io.specs.Told.{IsAboveLimit, IsTooLong, WhereTold}

-- these bytes were taken: all, or so many when it was broken off
abbrev pub AreTaken : {X : Type 0} → Option (List ℕ) → ℕ → ℕ → List ℕ → Result X LineFault → Type 0
AreTaken now faults faults' bytes (Ok x) = IsAtEnd now × (length bytes ≤ MAX_INPUT)
AreTaken now faults faults' bytes (Err ReadFault) = Rose faults faults' × (length bytes ≤ MAX_INPUT)
AreTaken now faults faults' bytes (Err (TooLong t)) = (t ≡ length bytes) × (MAX_INPUT < length bytes) × (length bytes ≤ MAX_INPUT + MAX_READ)
AreTaken now faults faults' bytes (Err Memory) = length bytes ≤ MAX_INPUT

-- these bytes were taken from a source until its end, or until the fault that came before it
pub record GathersAll {X : Type 0} (left now : Option (List ℕ)) (faults faults' : ℕ) (bytes : List ℕ) (result : Result X LineFault) : Type 0 where
  pub consumed : Consumes left now bytes
  pub taken : AreTaken now faults faults' bytes result
  pub counted : faults ≤ faults'

-- what is given of an input that is read to its end
pub record ReadsInput (left now : Option (List ℕ)) (faults faults' : ℕ) (result : Result (Vec ℕ Global) LineFault) : Type 0 where
  pub input : IfOk result (λ input. Consumes left now input.items)
  pub to_end : OnOk result (IsAtEnd now)
  pub within : IfOk result (λ input. length input.items ≤ MAX_INPUT)
  pub read_fault : result ≡ Err ReadFault → Rose faults faults'
  pub too_long : WhereTold left now (λ before after. IsTooLong result ↔ IsAboveLimit before after)
  pub one_read_past : WhereTold left now (λ before after. length before ≤ length after + MAX_INPUT + MAX_READ)
  pub counted : faults ≤ faults'
