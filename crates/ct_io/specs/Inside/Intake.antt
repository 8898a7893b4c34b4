-- Inside a line reader: how bytes come to it and go from it.
use Rattle.std.specs.Prelude.{◌≡◌, ℕ, Bool, ◌+◌, ◌<◌, ◌≤◌, ◌⊎◌, true, false, List, ◌++◌, length, max, take, Option, Some, None, Result, Err, IfOk, IfErr, OnOk, IfSome, slice_get}
use Rattle.std.specs.Io.KnownBytes.{Consumes, IsAtEnd}
use Rattle.ct_text.specs.declared.document_lines.TheConstants.{LINE_FEED}
use Rattle.ct_io.specs.Lines.{IsLine}
use Rattle.ct_io.specs.declared.TheConstants.{MAX_INPUT, MAX_READ}
use Rattle.ct_io.specs.declared.intake.Intake.{Intake}
use Rattle.ct_io.specs.declared.line_fault.LineFault.{LineFault}
use Rattle.ct_io.specs.declared.line_fault.LineFault.TheVariants.{ReadFault, TooLong, Memory}
use Rattle.ct_io.specs.Faults.{Rose}
use Rattle.ct_io.specs.Reader.{Answer, Divides, IfLine, IsLineThenRead, NeedsNoRead, given_size}

-- bytes were taken, counted and put after those held, and the end was seen only where none is left
abbrev pub Gathers : Intake → Intake → Option (List ℕ) → Option (List ℕ) → Type 0
Gathers old new before after =
    (bytes : List ℕ) × Consumes before after bytes × (new.held.bytes ≡ old.held.bytes ++ bytes) × (new.taken ≡ old.taken + length bytes)
    × (old.ended ≡ false → new.ended ≡ true → IsAtEnd after) × (old.ended ≡ true → new.ended ≡ true)

-- why no line comes: a fault of the source, too many bytes, or no memory
abbrev pub IsFaultAt : List ℕ → Bool → ℕ → ℕ → ℕ → LineFault → Type 0
IsFaultAt held ended taken old new ReadFault = Rose old new × (taken ≤ MAX_INPUT) × IsLine held × (ended ≡ false)
IsFaultAt held ended taken old new (TooLong t) = (t ≡ taken) × (MAX_INPUT < taken) × (taken ≤ MAX_INPUT + MAX_READ) × IsLineThenRead held × (ended ≡ false)
IsFaultAt held ended taken old new Memory = taken ≤ MAX_INPUT

-- what one read comes to, where no line was held and the end was not seen
pub record ReadsOn {X : Type 0} (old new : Intake) (before after : Option (List ℕ)) (faults faults' : ℕ) (result : Result X LineFault) : Type 0 where
  pub gathers : Gathers old new before after
  pub last : IsLineThenRead new.held.bytes
  pub kept : new.held.kept ≤ max old.held.kept (length new.held.bytes)
  pub all_kept : length new.held.bytes ≤ new.held.kept
  pub further : OnOk result (new.ended ≡ false → old.taken < new.taken)
  pub within : OnOk result (new.taken ≤ MAX_INPUT)
  pub fault : IfErr result (IsFaultAt new.held.bytes new.ended new.taken faults faults')
  pub counted : faults ≤ faults'

-- what was found in the bytes held: a line of n bytes that a line feed ends, or no line feed, and the input has ended
abbrev pub IsFound : Option ℕ → List ℕ → Bool → Type 0
IsFound (Some n) held ended = IsLine (take n held) × (slice_get held n ≡ Some LINE_FEED)
IsFound None held ended = IsLine held × (ended ≡ true)

-- a read came only where no line was held: the bytes are those of before, or those of one read after bytes without a line feed
abbrev pub LooksFirst : List ℕ → List ℕ → Type 0
LooksFirst old now = (now ≡ old) ⊎ IsLineThenRead now

-- what gathering a line comes to, by reads that come only where they are needed
pub record GathersLine {S : Type 0} (left : S → Option (List ℕ)) (count : S → ℕ) (old new : Intake) (before after : S) (result : Result (Option ℕ) LineFault) : Type 0 where
  pub gathers : Gathers old new (left before) (left after)
  pub found : IfOk result (λ found. IsFound found new.held.bytes new.ended)
  pub little : IfOk result (λ found. IfSome found (λ n. length new.held.bytes ≤ n + max (length old.held.bytes) MAX_READ))
  pub unread : NeedsNoRead old.held.bytes old.ended → (new.taken ≡ old.taken) × (after ≡ before)
  pub looks : LooksFirst old.held.bytes new.held.bytes
  pub kept : new.held.kept ≤ max old.held.kept (length new.held.bytes)
  pub all_kept : length new.held.bytes ≤ new.held.kept
  pub within : OnOk result (new.taken ≤ MAX_INPUT)
  pub fault : IfErr result (IsFaultAt new.held.bytes new.ended new.taken (count before) (count after))
  pub counted : count before ≤ count after

-- what giving out what was found comes to: a line, or what is left at the end, or want of memory, which loses nothing
pub record GivesOut (old new : Intake) (found : Option ℕ) (answer : Answer) : Type 0 where
  pub divides : Divides old.held.bytes answer new.held.bytes new.ended
  pub rest : (m : ℕ) → IfSome found (λ n. length old.held.bytes ≤ n + m) → IfLine answer (λ _. length new.held.bytes ≤ m)
  pub size : length old.held.bytes ≤ length new.held.bytes + given_size answer
  pub kept : new.held.kept ≡ old.held.kept
  pub all_kept : length new.held.bytes ≤ new.held.kept
  pub taken : new.taken ≡ old.taken
  pub ended : new.ended ≡ old.ended
  pub memory : IfErr answer (λ fault. fault ≡ Memory)

-- bytes were taken and counted, they and those held are divided into the answer and the bytes still held, and the end was seen only where none is left
abbrev pub Passes : Intake → Intake → Option (List ℕ) → Option (List ℕ) → Answer → Type 0
Passes old new before after answer =
    (bytes : List ℕ) × Consumes before after bytes × Divides (old.held.bytes ++ bytes) answer new.held.bytes new.ended × (new.taken ≡ old.taken + length bytes)
    × (old.ended ≡ false → new.ended ≡ true → IsAtEnd after) × (old.ended ≡ true → new.ended ≡ true)

-- what one call comes to, by reads that come only where they are needed
pub record Gives {S : Type 0} (left : S → Option (List ℕ)) (count : S → ℕ) (old new : Intake) (before after : S) (answer : Answer) : Type 0 where
  pub passes : Passes old new (left before) (left after) answer
  pub little : IfLine answer (λ _. length new.held.bytes ≤ max (length old.held.bytes) MAX_READ)
  pub unread : NeedsNoRead old.held.bytes old.ended → (new.taken ≡ old.taken) × (after ≡ before)
  pub kept : new.held.kept ≤ max old.held.kept (length new.held.bytes + given_size answer)
  pub all_kept : length new.held.bytes ≤ new.held.kept
  pub within : OnOk answer (new.taken ≤ MAX_INPUT)
  pub fault : IfErr answer (IsFaultAt new.held.bytes new.ended new.taken (count before) (count after))
  pub memory : answer ≡ Err Memory → LooksFirst old.held.bytes new.held.bytes
  pub counted : count before ≤ count after
