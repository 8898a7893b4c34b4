-- What the lines of an input ask for: a submission takes the lines of its document with it, and every other command is one line.
use Rattle.std.specs.Prelude.{◌≡◌, ℕ, List, [], ◌∷◌, ◌++◌, Option}
use Rattle.ct_text.specs.declared.gathering.Extent.{Extent}
use Rattle.ct_text.specs.Gathering.{IsDocument, IsCutShort}
use Rattle.ct_commands.specs.Form.{form_of}
use Rattle.ct_commands.specs.declared.form.Form.TheVariants as form
use Rattle.ct_commands.specs.declared.command.Command.{Command}
use Rattle.ct_commands.specs.declared.command.Command.TheVariants as command

-- the lines ask for the commands, in order; a submission whose document they cut short asks for `last`
pub data AskFor (last : List Command) : List (List ℕ) → List Command → Type 0 where
  nothing : AskFor last [] []
  passed_over : (line : List ℕ) (lines : List (List ℕ)) (commands : List Command) → form_of line ≡ form.Nothing → AskFor last lines commands → AskFor last (line ∷ lines) commands
  one_line : (line : List ℕ) (c : Command) (lines : List (List ℕ)) (commands : List Command) → form_of line ≡ form.Whole c → AskFor last lines commands
      → AskFor last (line ∷ lines) (c ∷ commands)
  submission : (line : List ℕ) (id : Option (List ℕ)) (extent : Extent) (block : List (List ℕ)) (text : List ℕ) (lines : List (List ℕ)) (commands : List Command)
      → form_of line ≡ form.Submit id extent → IsDocument extent block text → AskFor last lines commands
      → AskFor last (line ∷ block ++ lines) (command.Submission id text ∷ commands)
  cut_short : (line : List ℕ) (id : Option (List ℕ)) (extent : Extent) (block : List (List ℕ)) → form_of line ≡ form.Submit id extent → IsCutShort extent block
      → AskFor last (line ∷ block) last
