-- What the output of a session says of codes, in plain numbers and texts: no evidence, no rule and no derivation occurs in it.
use Rattle.std.specs.Prelude.{◌≡◌, ℕ, List, [], ◌∷◌, ◌++◌, Option, Some, None, codes}
use Rattle.std.specs.List.{AllZip, flat_map}
use Rattle.std.specs.List.Sorted.{IsStrictlyIncreasing}
use Rattle.ct_words.specs.declared.entry.Entry.{Entry}
use Rattle.ct_words.specs.Code.{IsCodeOf, IsTrueLower, IsTrueUpper}
use Rattle.ct_words.specs.TableEntries.{column}
use Rattle.ct_io.specs.Lines.{IsLine, lines_of}
use Rattle.ct_text.specs.EntryNumbers.{named_entry}
use Rattle.ct_commands.specs.Input.{AskFor}
use Rattle.ct_commands.specs.declared.command.Command.{Command}
use Rattle.ct_commands.specs.declared.command.Command.TheVariants as command
use Rattle.ct_replies.specs.Text.{ended, bounds_text, code_text}

-- the line bounds A(n,d), or A(n,d,w), truly: some code of the entry has exactly `lower` words, and none has more than `upper`
pub record IsTrueLine (e : Entry) (line : List ℕ) : Type 0 where
  pub lower : ℕ
  pub upper : ℕ
  pub attained : IsTrueLower e lower
  pub limited : IsTrueUpper e upper
  pub spelled : line ≡ ended (bounds_text e lower upper)

-- the text is a true line for each of the entries, in order
pub record AreTrueLines (entries : List Entry) (text : List ℕ) : Type 0 where
  pub lines : List (List ℕ)
  pub each : AllZip IsTrueLine entries lines
  pub spelled : text ≡ flat_map (λ line. line) lines

-- the text lists the words of a code of the entry, in ascending order
pub record IsTrueList (e : Entry) (text : List ℕ) : Type 0 where
  pub words : List ℕ
  pub code : IsCodeOf e words
  pub ascending : IsStrictlyIncreasing words
  pub spelled : text ≡ code_text e words

-- the line that answers a command which names no entry of the table
abbrev pub no_entry : List ℕ
no_entry = ended (codes "refused entry")

-- a true answer to `show`
abbrev pub IsTrueShow : Option Entry → List ℕ → Type 0
IsTrueShow None text = text ≡ no_entry
IsTrueShow (Some e) text = IsTrueLine e text

-- a true answer to `table`
abbrev pub IsTrueTable : List Entry → List ℕ → Type 0
IsTrueTable [] text = text ≡ no_entry
IsTrueTable (e ∷ entries) text = AreTrueLines (e ∷ entries) text

-- a true answer to `list`
abbrev pub IsTrueListing : Option Entry → List ℕ → Type 0
IsTrueListing None text = text ≡ no_entry
IsTrueListing (Some e) text = IsTrueList e text

-- the text is whole lines, one at least: it ends with a line feed
abbrev pub AreWholeLines : List ℕ → Type 0
AreWholeLines text = (front : List ℕ) × (text ≡ ended front)

-- the text is one line: its only line feed is at its end
abbrev pub IsOneLine : List ℕ → Type 0
IsOneLine text = (line : List ℕ) × IsLine line × (text ≡ ended line)

-- the text is a true answer to the command: to `show`, `table` or `list`. Of other answers it says only that they are one line, or for some whole lines
abbrev pub IsTrueAnswer : Command → List ℕ → Type 0
IsTrueAnswer (command.Show numbers) text = IsTrueShow (named_entry numbers) text
IsTrueAnswer (command.Table numbers) text = IsTrueTable (column numbers.d numbers.w) text
IsTrueAnswer (command.List numbers) text = IsTrueListing (named_entry numbers) text
IsTrueAnswer (command.Explain side numbers) text = AreWholeLines text
IsTrueAnswer command.Ledger text = AreWholeLines text
IsTrueAnswer command.Dump text = AreWholeLines text
IsTrueAnswer other text = IsOneLine text

-- the output is answers to the commands of the input, one to each, in order; each is as the relation says
pub record AreAnswers (IsRight : Command → List ℕ → Type 0) (input output : List ℕ) : Type 0 where
  pub commands : List Command
  pub asked : AskFor (command.CutOff ∷ []) (lines_of input) commands
  pub answers : List (List ℕ)
  pub each : AllZip IsRight commands answers
  pub spelled : output ≡ flat_map (λ answer. answer) answers
