-- How far a session has come.
use Rattle.std.specs.Prelude.{◌≡◌, ℕ, Bool, false, ◌||◌, List, [], ◌++◌, fold, Option, None}
use Rattle.ct_commands.specs.Command.{completed, open_after_all}
use Rattle.ct_commands.specs.declared.command_reader.Pending.{Pending}
use Rattle.ct_piece.specs.Piece.{PieceValue}
use Rattle.ct_session.specs.Reply.{pieces_after}
use Rattle.ct_session.specs.Run.{AnswersCommands}

-- the pieces that stand, the submission that is open, and whether a reply was a refusal
pub record State : Type 0 where
  pub pieces : List PieceValue
  pub pending : Option Pending
  pub refused : Bool

-- before the first line
abbrev pub fresh_state : State
fresh_state = record { pieces = []; pending = None; refused = false }

-- lines were taken: the text answers the commands that they complete, and the state is the one after them
pub record TakesLines (old new : State) (lines : List (List ℕ)) (text : List ℕ) : Type 0 where
  pub refused : Bool
  pub answers : AnswersCommands old.pieces (completed old.pending lines) text refused
  pub pieces : new.pieces ≡ fold pieces_after old.pieces (completed old.pending lines)
  pub pending : new.pending ≡ open_after_all old.pending lines
  pub mark : new.refused ≡ (old.refused || refused)

-- a text grew by one that answers the commands that lines complete, and the state is the one after them
abbrev pub PutsLines : State → State → List (List ℕ) → List ℕ → List ℕ → Type 0
PutsLines old new lines before after = (text : List ℕ) × TakesLines old new lines text × (after ≡ before ++ text)
