-- What a line reader holds and has done, and what one call does.
use Rattle.std.specs.Prelude.{◌≡◌, ℕ, replicate, ◌+◌, ◌≤◌, Bool, true, false, List, [], ◌∷◌, ◌++◌, ◌⊎◌, length, Contains, Option, Some, None, Result, Ok, Err, Vec, ⊤, if◌then◌else◌}
use Rattle.std.specs.declared.alloc.Global.{Global}
use Rattle.std.specs.Io.KnownBytes.{prepend_known, Consumes}
use Rattle.ct_text.specs.declared.document_lines.TheConstants.{LINE_FEED}
use Rattle.ct_io.specs.declared.TheConstants.{MAX_READ}
use Rattle.ct_io.specs.declared.line_fault.LineFault.{LineFault}
use Rattle.ct_io.specs.declared.line_fault.LineFault.TheVariants.{ReadFault, TooLong, Memory}
use Rattle.ct_io.specs.Lines.{lines_of, IsLine, IsNextLine}

-- a line reader: the bytes that it holds, how many its memory keeps (also those given out and not yet dropped), how many it
-- took, whether the end of the input was seen, and the fault that it stays with
pub record Reader : Type 0 where
  pub held : List ℕ
  pub kept : ℕ
  pub taken : ℕ
  pub ended : Bool
  pub fault : Option LineFault

-- a reader that took nothing yet
abbrev pub fresh_reader : Reader
fresh_reader = record { held = []; kept = 0; taken = 0; ended = false; fault = None }

-- the bytes still to come: those held and, until the end was seen, those that the source has left
abbrev pub input_of : Reader → Option (List ℕ) → Option (List ℕ)
input_of r left = if r.ended then Some r.held else prepend_known r.held left

-- a call has no need to read: a whole line is held, or the end was seen
abbrev pub NeedsNoRead : List ℕ → Bool → Type 0
NeedsNoRead held ended = Contains held LINE_FEED ⊎ (ended ≡ true)

-- bytes without a line feed, and after them those of one read at most
abbrev pub IsLineThenRead : List ℕ → Type 0
IsLineThenRead held = (front last : List ℕ) × (held ≡ front ++ last) × IsLine front × (length last ≤ MAX_READ)

-- the answer of a call
abbrev pub Answer : Type 0
Answer = Result (Option (Vec ℕ Global)) LineFault

-- what holds of the line, where the answer is one
abbrev pub IfLine : Answer → (List ℕ → Type 0) → Type 0
IfLine (Ok (Some line)) P = P line.items
IfLine (Ok None) P = ⊤
IfLine (Err fault) P = ⊤

-- what holds where the answer is that no line is left
abbrev pub IfNoLine : Answer → Type 0 → Type 0
IfNoLine (Ok (Some line)) P = ⊤
IfNoLine (Ok None) P = P
IfNoLine (Err fault) P = ⊤

-- how many bytes an answer gives out: those of a line, and one for its line feed
abbrev pub given_size : Answer → ℕ
given_size (Ok (Some line)) = length line.items + 1
given_size (Ok None) = 0
given_size (Err fault) = 0

-- known bytes lose their next line
abbrev pub LosesLine : Option (List ℕ) → Option (List ℕ) → List ℕ → Type 0
LosesLine None new line = ⊤
LosesLine (Some before) None line = ⊥
LosesLine (Some before) (Some after) line = IsNextLine before line after

-- the lines of known bytes lose their first
abbrev pub LosesFirstLine : Option (List ℕ) → Option (List ℕ) → List ℕ → Type 0
LosesFirstLine None new line = ⊤
LosesFirstLine (Some before) None line = ⊥
LosesFirstLine (Some before) (Some after) line = lines_of before ≡ line ∷ lines_of after

-- the bytes are those of the answer and those still held; only at the end may a line have no line feed, and only there is there no line
abbrev pub Divides : List ℕ → Answer → List ℕ → Bool → Type 0
Divides bytes (Ok (Some line)) held ended = IsNextLine bytes line.items held × (ended ≡ false → bytes ≡ line.items ++ LINE_FEED ∷ held)
Divides bytes (Ok None) held ended = (bytes ≡ []) × (held ≡ []) × (ended ≡ true)
Divides bytes (Err fault) held ended = held ≡ bytes

-- the call took bytes from the source, counted them, and put them after those held
abbrev pub Takes : Reader → Reader → Option (List ℕ) → Option (List ℕ) → Answer → Type 0
Takes old new before after answer =
    (bytes : List ℕ) × Consumes before after bytes × (new.taken ≡ old.taken + length bytes) × Divides (old.held ++ bytes) answer new.held new.ended

-- a reader drops empty lines that it holds: line feeds at the front of its bytes. All else stays
abbrev pub PassesEmptyLines : Reader → Reader → Type 0
PassesEmptyLines old new = (count : ℕ) × (old.held ≡ replicate count LINE_FEED ++ new.held) × (new ≡ record old { held = new.held })

-- the fault that every later call answers again: want of memory is none
abbrev pub lasting_fault : Answer → Option LineFault
lasting_fault (Ok line) = None
lasting_fault (Err ReadFault) = Some ReadFault
lasting_fault (Err (TooLong taken)) = Some (TooLong taken)
lasting_fault (Err Memory) = None
