-- What serving a session does to a source and a sink that tell their bytes.
use Rattle.std.specs.Prelude.{◌≡◌, ◌+◌, ◌≤◌, ℕ, ⊤, Bool, List, [], ◌++◌, length, Option, Some, None}
use Rattle.std.specs.Io.KnownBytes.{Appends, Consumes}
use Rattle.ct_io.specs.Lines.{lines_of, whole_lines}
use Rattle.ct_io.specs.declared.TheConstants.{MAX_READ}
use Rattle.ct_io.specs.Told.{AppendsPrefix, AppendsProperPrefix}
use Rattle.ct_session.specs.Run.{AnswersAll, IsRun}

-- what a sink holds grew by the output of a run on what the source had left
abbrev pub WritesRun : Option (List ℕ) → Option (List ℕ) → Option (List ℕ) → Bool → Type 0
WritesRun None old new refused = ⊤
WritesRun (Some input) old new refused = (output : List ℕ) × IsRun input output refused × Appends old new output

-- what a sink holds grew by a prefix of the output of a run on what the source had left
abbrev pub WritesRunPrefix : Option (List ℕ) → Option (List ℕ) → Option (List ℕ) → Type 0
WritesRunPrefix None old new = ⊤
WritesRunPrefix (Some input) old new = (output : List ℕ) × (refused : Bool) × IsRun input output refused × AppendsPrefix old new output

-- the same, and some of the output is left
abbrev pub WritesRunProperPrefix : Option (List ℕ) → Option (List ℕ) → Option (List ℕ) → Type 0
WritesRunProperPrefix None old new = ⊤
WritesRunProperPrefix (Some input) old new = (output : List ℕ) × (refused : Bool) × IsRun input output refused × AppendsProperPrefix old new output

-- what a sink holds grew by the replies to the commands that the whole lines of these bytes complete
abbrev pub AnswersLines : List ℕ → Option (List ℕ) → Option (List ℕ) → Type 0
AnswersLines bytes old new = (text : List ℕ) × (refused : Bool) × AnswersAll [] (whole_lines bytes) text refused × Appends old new text

-- the bytes that were taken from the source were answered: the replies are those to the commands that their whole lines complete
abbrev pub AnswersTaken : Option (List ℕ) → Option (List ℕ) → Option (List ℕ) → Option (List ℕ) → Type 0
AnswersTaken None after old new = ⊤
AnswersTaken (Some input) after old new = (taken : List ℕ) × Consumes (Some input) after taken × AnswersLines taken old new

-- the bytes that were taken from the source were answered, but for at most the last MAX_READ of them: the replies are those to the commands that
-- the whole lines before these bytes complete
abbrev pub AnswersButLastBytes : Option (List ℕ) → Option (List ℕ) → Option (List ℕ) → Option (List ℕ) → Type 0
AnswersButLastBytes None after old new = ⊤
AnswersButLastBytes (Some input) after old new =
    (front last : List ℕ) × Consumes (Some input) after (front ++ last) × (length last ≤ MAX_READ) × AnswersLines front old new

-- of these lines few were taken from the source: they are at most MAX_READ + 1 more than the lines that it has left
abbrev pub AreFewMore : List (List ℕ) → Option (List ℕ) → Type 0
AreFewMore rest None = ⊤
AreFewMore rest (Some after) = length rest ≤ length (lines_of after) + (MAX_READ + 1)

-- whole replies were written: those to the commands that some lines at the front of what the source had left complete; of the lines that were taken
-- from it, at most MAX_READ + 1 stay unanswered
abbrev pub WritesWholeReplies : Option (List ℕ) → Option (List ℕ) → Option (List ℕ) → Option (List ℕ) → Type 0
WritesWholeReplies None after old new = ⊤
WritesWholeReplies (Some input) after old new =
    (lines rest : List (List ℕ)) × (text : List ℕ) × (refused : Bool) × (lines_of input ≡ lines ++ rest) × AreFewMore rest after
    × AnswersAll [] lines text refused × Appends old new text
