-- The commands of an input: a submission takes the lines of its document with it, every other command is one line.
use Rattle.std.specs.Prelude.{ℕ, List, [], ◌∷◌, ◌++◌, fold, Option, Some, None}
use Rattle.std.specs.Option.{option_to_list}
use Rattle.ct_text.specs.Gathering.{gathered}
use Rattle.ct_text.specs.declared.gathering.Gathered.{Gathered}
use Rattle.ct_text.specs.declared.gathering.Gathered.TheVariants.{More, Whole}
use Rattle.ct_commands.specs.Form.{form_of}
use Rattle.ct_commands.specs.declared.form.Form.{Form}
use Rattle.ct_commands.specs.declared.form.Form.TheVariants as form
use Rattle.ct_commands.specs.declared.command.Command.{Command}
use Rattle.ct_commands.specs.declared.command.Command.TheVariants as command
use Rattle.ct_commands.specs.declared.command_reader.Pending.{Pending}

-- the submission that a line opens, if it begins with `submit`: its id, if it has one, and no lines of its document yet
abbrev pub opened : Form → Option Pending
opened (form.Submit id extent) = Some (record { id = id; document = record { extent = extent; text = [] } })
opened f = None

-- the submission that is still open, where its document goes on
abbrev pub going_on : Option (List ℕ) → Gathered → Option Pending
going_on id (More document) = Some (record { id = id; document = document })
going_on id (Whole text) = None

-- the submission that is open after a line
abbrev pub open_after : Option Pending → List ℕ → Option Pending
open_after None line = opened (form_of line)
open_after (Some p) line = going_on p.id (gathered p.document line)

-- the command that a line is by itself
abbrev pub asked : Form → Option Command
asked (form.Whole c) = Some c
asked f = None

-- the submission whose document is whole
abbrev pub finished : Option (List ℕ) → Gathered → Option Command
finished id (More document) = None
finished id (Whole text) = Some (command.Submission id text)

-- the command that a line completes, if it completes one
abbrev pub completed_by : Option Pending → List ℕ → Option Command
completed_by None line = asked (form_of line)
completed_by (Some p) line = finished p.id (gathered p.document line)

-- the commands that lines complete, in order, where this submission is open before them
abbrev pub completed : Option Pending → List (List ℕ) → List Command
completed pending [] = []
completed pending (line ∷ lines) = option_to_list (completed_by pending line) ++ completed (open_after pending line) lines

-- the submission that is open after lines
abbrev pub open_after_all : Option Pending → List (List ℕ) → Option Pending
open_after_all pending lines = fold open_after pending lines

-- what is asked for at the end of lines: this, where a submission is open
abbrev pub at_last : List Command → Option Pending → List Command
at_last last None = []
at_last last (Some p) = last

-- a submission that is open at the end of the input is cut off
abbrev pub cut_off : Option Pending → List Command
cut_off pending = at_last (command.CutOff ∷ []) pending

-- the commands that lines complete, and then this, where a submission is open at their end
abbrev pub asked_for : List Command → List (List ℕ) → List Command
asked_for last lines = completed None lines ++ at_last last (open_after_all None lines)

-- the commands of the lines of an input: those that the lines complete, and a submission that the end cuts off
abbrev pub commands_of : List (List ℕ) → List Command
commands_of lines = asked_for (command.CutOff ∷ []) lines
