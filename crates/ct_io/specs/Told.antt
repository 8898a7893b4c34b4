-- What a source and a sink tell of their bytes before and after.
use Rattle.std.specs.Prelude.{◌≡◌, ◌≢◌, ◌≤◌, ◌<◌, ◌+◌, ℕ, ⊤, List, [], ◌++◌, length, Option, Some, None, Result, Err}
use Rattle.std.specs.Io.KnownBytes.{Appends}
use Rattle.ct_io.specs.declared.TheConstants.{MAX_INPUT}
use Rattle.ct_io.specs.declared.line_fault.LineFault.{LineFault}
use Rattle.ct_io.specs.declared.line_fault.LineFault.TheVariants.{ReadFault, TooLong, Memory}
use Rattle.ct_io.specs.declared.run_fault.RunFault.{RunFault}
use Rattle.ct_io.specs.declared.run_fault.RunFault.TheVariants as run

-- a fact about the bytes that a source has left before and after, where it tells them; a source that tells its bytes goes on telling them
abbrev pub WhereTold : Option (List ℕ) → Option (List ℕ) → (List ℕ → List ℕ → Type 0) → Type 0
WhereTold None after P = ⊤
WhereTold (Some before) None P = ⊥
WhereTold (Some before) (Some after) P = P before after

-- more than the greatest number of bytes of an input were taken
abbrev pub IsAboveLimit : List ℕ → List ℕ → Type 0
IsAboveLimit before after = length after + MAX_INPUT < length before

-- the bytes that a source has left are told, and not above the limit
abbrev pub IsWithinLimit : Option (List ℕ) → Type 0
IsWithinLimit None = ⊥
IsWithinLimit (Some input) = length input ≤ MAX_INPUT

-- the answer is that too many bytes were taken
abbrev pub IsTooLong : {X : Type 0} → Result X LineFault → Type 0
IsTooLong result = (t : ℕ) × (result ≡ Err (TooLong t))

-- the fault of a run whose reading has this one
abbrev pub fault_of_read : LineFault → RunFault
fault_of_read ReadFault = run.Read
fault_of_read (TooLong taken) = run.TooLong
fault_of_read Memory = run.Memory

-- known bytes grow by a prefix of the text: by all of it, a part from its beginning on, or nothing
abbrev pub AppendsPrefix : Option (List ℕ) → Option (List ℕ) → List ℕ → Type 0
AppendsPrefix old new text = (front back : List ℕ) × (text ≡ front ++ back) × Appends old new front

-- known bytes grow by a proper prefix of the text: by a part from its beginning on, or nothing, and some of it is left
abbrev pub AppendsProperPrefix : Option (List ℕ) → Option (List ℕ) → List ℕ → Type 0
AppendsProperPrefix old new text = (front back : List ℕ) × (text ≡ front ++ back) × (back ≢ []) × Appends old new front
