-- What one line of a session asks for.
use Rattle.std.specs.Option.{option_map, unwrap_or}
use Rattle.std.specs.Prelude.{ℕ, suc, ◌==◌, if◌then◌else◌, List, [], ◌∷◌, Option, Some, None, codes, slice_index}
use Rattle.std.specs.Str.{bytes_eq}
use Rattle.ct_words.specs.declared.claim.Side.{Side}
use Rattle.ct_text.specs.Line.{words_of}
use Rattle.ct_text.specs.Number.{number_of}
use Rattle.ct_names.specs.Id.{is_id}
use Rattle.ct_text.specs.Side.{side_of_word}
use Rattle.ct_text.specs.EntryNumbers.{entry_numbers_of}
use Rattle.ct_text.specs.TableNumbers.{table_numbers_of}
use Rattle.ct_text.specs.declared.entry_numbers.EntryNumbers.{EntryNumbers}
use Rattle.ct_text.specs.declared.gathering.Extent.TheVariants.{ToEnd, Lines}
use Rattle.ct_commands.specs.declared.form.Form.{Form}
use Rattle.ct_commands.specs.declared.form.Form.TheVariants.{Nothing, Submit, Whole}
use Rattle.ct_commands.specs.declared.command.Command.{Command}
use Rattle.ct_commands.specs.declared.command.Command.TheVariants as command

-- the id that a word is, if it is one
abbrev pub id_of : List ℕ → Option (List ℕ)
id_of word = if is_id word then Some word else None

-- a submission whose document has K lines, if K is a number and at least 1; else one without an id, whose document goes to the line `end`
abbrev pub lines_form : Option (List ℕ) → Option ℕ → Form
lines_form id (Some (suc more)) = Submit id (Lines (suc more))
lines_form id count = Submit None ToEnd

-- what the words after `submit` ask for: ID, or ID lines K; whatever else follows, a document goes to the line `end`
abbrev pub submit_form : List (List ℕ) → Form
submit_form (id ∷ []) = Submit (id_of id) ToEnd
submit_form (id ∷ word ∷ count ∷ []) = if bytes_eq word (codes "lines") then lines_form (id_of id) (number_of count) else Submit None ToEnd
submit_form words = Submit None ToEnd

-- the withdrawal that the words ask for: ID, or ID all
abbrev pub withdrawal : List (List ℕ) → Option Command
withdrawal (id ∷ []) = option_map command.Withdraw (id_of id)
withdrawal (id ∷ word ∷ []) = if bytes_eq word (codes "all") then option_map command.WithdrawAll (id_of id) else None
withdrawal words = None

-- the command, if no words stand after its name
abbrev pub alone : Command → List (List ℕ) → Option Command
alone c [] = Some c
alone c (word ∷ words) = None

-- the explanation of the bound on a side of an entry, if both are named
abbrev pub explanation_of : Option Side → Option EntryNumbers → Option Command
explanation_of (Some side) (Some numbers) = Some (command.Explain side numbers)
explanation_of side numbers = None

-- the explanation that the words ask for, if they are a side and the numbers of an entry
abbrev pub explanation : List (List ℕ) → Option Command
explanation [] = None
explanation (side ∷ numbers) = explanation_of (side_of_word side) (entry_numbers_of numbers)

-- the command that a name and the words after it make, if they make one: a row for each command that is one line
abbrev pub command_of : List ℕ → List (List ℕ) → Option Command
command_of name words =
    if bytes_eq name (codes "withdraw") then withdrawal words
    else (if bytes_eq name (codes "show") then option_map command.Show (entry_numbers_of words)
    else (if bytes_eq name (codes "table") then option_map command.Table (table_numbers_of words)
    else (if bytes_eq name (codes "explain") then explanation words
    else (if bytes_eq name (codes "list") then option_map command.List (entry_numbers_of words)
    else (if bytes_eq name (codes "ledger") then alone command.Ledger words
    else (if bytes_eq name (codes "dump") then alone command.Dump words
    else None))))))

-- what the words of a line ask for, by the first of them: a submission, a command, or one that is unknown
abbrev pub words_form : List (List ℕ) → Form
words_form [] = Nothing
words_form (name ∷ words) = if bytes_eq name (codes "submit") then submit_form words else Whole (unwrap_or (command_of name words) command.Unknown)

-- what a line asks for: nothing if its first byte is `#` (35) or it has no words
unfoldable pub form_of : List ℕ → Form
form_of line = if slice_index line 0 == 35 then Nothing else words_form (words_of line)
