-- Inside a line reader: what its fields mean.
use Rattle.std.specs.Prelude.{◌≡◌, ℕ, Bool, false, ◌+◌, ◌<◌, ◌≤◌, List, Option, Some, None}
use Rattle.ct_io.specs.declared.TheConstants.{MAX_INPUT, MAX_READ}
use Rattle.ct_io.specs.declared.line_fault.LineFault.{LineFault}
use Rattle.ct_io.specs.declared.line_fault.LineFault.TheVariants.{ReadFault, TooLong, Memory}
use Rattle.ct_io.specs.declared.line_reader.LineReader.TheInside.{Inside}
use Rattle.ct_io.specs.Reader.{Reader, IsLineThenRead}
use Rattle.ct_io.specs.Lines.{IsLine}

-- a reader as its callers see it
abbrev pub reader_of : Inside → Reader
reader_of r = record { held = r.intake.held.bytes; kept = r.intake.held.kept; taken = r.intake.taken; ended = r.intake.ended; fault = r.fault }

-- too many bytes were taken exactly where the reader stays with that fault, and then only the bytes of the last read can have a
-- line feed among them; with a failed read it holds no whole line; the end was not seen before either, and it never stays with want of memory
abbrev pub IsSettled : List ℕ → Bool → ℕ → Option LineFault → Type 0
IsSettled held ended taken None = taken ≤ MAX_INPUT
IsSettled held ended taken (Some ReadFault) = (taken ≤ MAX_INPUT) × IsLine held × (ended ≡ false)
IsSettled held ended taken (Some (TooLong t)) = (t ≡ taken) × (MAX_INPUT < taken) × (taken ≤ MAX_INPUT + MAX_READ) × IsLineThenRead held × (ended ≡ false)
IsSettled held ended taken (Some Memory) = ⊥
