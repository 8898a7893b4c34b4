-- The modes of the program, and what each writes.
use Rattle.std.specs.Prelude.{◌≡◌, ◌⊎◌, ℕ, ⊤, Bool, true, false, if◌then◌else◌, List, [], Option, Some, None}
use Rattle.std.specs.Io.KnownBytes.{Appends, Keeps}
use Rattle.ct_io.specs.Told.{AppendsPrefix, AppendsProperPrefix}
use Rattle.ct_session.specs.Run.{IsRun}
use Rattle.ct_session.specs.Serve.{AnswersTaken, AnswersButLastBytes, WritesWholeReplies}
use Rattle.ct_verify.specs.Document.{IsVerdict}
use Rattle.ct_verify.specs.declared.verdict.Verdict.{Verdict}
use Rattle.ct_verify.specs.Verification.{is_no, verdict_line}
use Rattle.ct_find.specs.Reply.{IsFound}
use Rattle.ct_sample.specs.Summary.{IsSampleOutput}
use Rattle.ct_command_line.specs.declared.mode.Mode.{Mode}
use Rattle.ct_command_line.specs.declared.mode.Mode.TheVariants.{Session, Verify, Find, Sample}
use Rattle.ct_run.specs.declared.status.Status.{Status}
use Rattle.ct_run.specs.declared.status.Status.TheVariants as status

-- whether a mode reads the source. One that does reads it to its end
abbrev pub reads : Mode → Bool
reads Session = true
reads Verify = true
reads Find = true
reads (Sample number) = false

-- an output of a mode on an input, and whether something is refused in it: in a session and in `find` a reply, in `verify` the document, in `sample`
-- nothing
abbrev pub IsOutput : Mode → List ℕ → List ℕ → Bool → Type 0
IsOutput Session input output refused = IsRun input output refused
IsOutput Verify input output refused = (verdict : Verdict) × IsVerdict input verdict × (output ≡ verdict_line verdict) × (refused ≡ is_no verdict)
IsOutput Find input output refused = IsFound input output refused
IsOutput (Sample number) input output refused = IsSampleOutput number output × (refused ≡ false)

-- the input of a mode, where it is told: of one that reads the source what this has left, of one that reads nothing no bytes, whatever a source tells
abbrev pub input_for : Mode → Option (List ℕ) → Option (List ℕ)
input_for mode left = if reads mode then left else Some []

-- the status of an output that was written whole
abbrev pub status_of : Bool → Status
status_of refused = if refused then status.Refused else status.Done

-- the status of a whole output: `Done`, or `Refused`
abbrev pub IsRunStatus : Status → Type 0
IsRunStatus result = (result ≡ status.Done) ⊎ (result ≡ status.Refused)

-- what a sink holds grew by an output of the mode on the input, and the status is the output's
abbrev pub WritesOn : Mode → Option (List ℕ) → Option (List ℕ) → Option (List ℕ) → Status → Type 0
WritesOn mode None old new result = ⊤
WritesOn mode (Some input) old new result = (output : List ℕ) × (refused : Bool) × IsOutput mode input output refused × (result ≡ status_of refused) × Appends old new output

-- what a sink holds grew by a prefix of an output of the mode on the input
abbrev pub WritesPrefixOn : Mode → Option (List ℕ) → Option (List ℕ) → Option (List ℕ) → Type 0
WritesPrefixOn mode None old new = ⊤
WritesPrefixOn mode (Some input) old new = (output : List ℕ) × (refused : Bool) × IsOutput mode input output refused × AppendsPrefix old new output

-- the same, and some of the output is left
abbrev pub WritesProperPrefixOn : Mode → Option (List ℕ) → Option (List ℕ) → Option (List ℕ) → Type 0
WritesProperPrefixOn mode None old new = ⊤
WritesProperPrefixOn mode (Some input) old new = (output : List ℕ) × (refused : Bool) × IsOutput mode input output refused × AppendsProperPrefix old new output

-- what a sink holds grew by an output of the mode on its input, with the status of that output; the source has these bytes left, where it tells them
abbrev pub WritesOutput : Mode → Option (List ℕ) → Option (List ℕ) → Option (List ℕ) → Status → Type 0
WritesOutput mode left old new result = WritesOn mode (input_for mode left) old new result

-- by a prefix of such an output
abbrev pub WritesPrefix : Mode → Option (List ℕ) → Option (List ℕ) → Option (List ℕ) → Type 0
WritesPrefix mode left old new = WritesPrefixOn mode (input_for mode left) old new

-- by a prefix that leaves some of it
abbrev pub WritesProperPrefix : Mode → Option (List ℕ) → Option (List ℕ) → Option (List ℕ) → Type 0
WritesProperPrefix mode left old new = WritesProperPrefixOn mode (input_for mode left) old new

-- what a failed read leaves in the sink, mode by mode. Of a session: the replies to all commands that whole lines complete. Of `verify` and `find`: nothing.
-- In `sample` no read fails
abbrev pub LeftByReadFault : Mode → Option (List ℕ) → Option (List ℕ) → Option (List ℕ) → Option (List ℕ) → Type 0
LeftByReadFault Session left now old new = AnswersTaken left now old new
LeftByReadFault Verify left now old new = Keeps old new
LeftByReadFault Find left now old new = Keeps old new
LeftByReadFault (Sample number) left now old new = ⊥

-- what too many bytes leave in the sink, mode by mode. Of a session: the same, but for at most the last MAX_READ bytes. Of `verify` and `find`: nothing.
-- In `sample` no byte is taken
abbrev pub LeftByTooLong : Mode → Option (List ℕ) → Option (List ℕ) → Option (List ℕ) → Option (List ℕ) → Type 0
LeftByTooLong Session left now old new = AnswersButLastBytes left now old new
LeftByTooLong Verify left now old new = Keeps old new
LeftByTooLong Find left now old new = Keeps old new
LeftByTooLong (Sample number) left now old new = ⊥

-- what want of memory leaves in the sink, mode by mode. Of a session: whole replies, which answer all but at most MAX_READ + 1 of the lines that were
-- taken. Of `verify`, `find` and `sample`: nothing
abbrev pub LeftByMemory : Mode → Option (List ℕ) → Option (List ℕ) → Option (List ℕ) → Option (List ℕ) → Type 0
LeftByMemory Session left now old new = WritesWholeReplies left now old new
LeftByMemory Verify left now old new = Keeps old new
LeftByMemory Find left now old new = Keeps old new
LeftByMemory (Sample number) left now old new = Keeps old new
