-- A run of a session: what is written for an input.
use Rattle.std.specs.Prelude.{◌≡◌, ℕ, ⊤, Bool, false, List, [], ◌∷◌, ◌++◌, fold}
use Rattle.std.specs.List.{flat_map, list_any}
use Rattle.ct_io.specs.Lines.{lines_of}
use Rattle.ct_commands.specs.Command.{commands_of}
use Rattle.ct_commands.specs.Input.{AskFor}
use Rattle.ct_commands.specs.declared.command.Command.{Command}
use Rattle.ct_commands.specs.declared.command.Command.TheVariants as command
use Rattle.ct_piece.specs.Piece.{PieceValue}
use Rattle.ct_session.specs.Reply.{IsReply, leaves_choice, pieces_after}
use Rattle.ct_replies.specs.Refusals.{is_refusal}
use Rattle.ct_replies.specs.Text.{reply_text}
use Rattle.ct_replies.specs.declared.reply.Reply.{Reply}

-- the replies to the commands in order, one each, over the pieces that the commands before it left
abbrev pub AreReplies : List PieceValue → List Command → List Reply → Type 0
AreReplies pieces [] [] = ⊤
AreReplies pieces [] (r ∷ rs) = ⊥
AreReplies pieces (c ∷ cs) [] = ⊥
AreReplies pieces (c ∷ cs) (r ∷ rs) = IsReply pieces c r × AreReplies (pieces_after pieces c) cs rs

-- two lists of replies to the commands: as many, and equal but at commands that leave a choice
abbrev pub DifferInChoices : List Command → List Reply → List Reply → Type 0
DifferInChoices [] [] [] = ⊤
DifferInChoices (c ∷ cs) (r ∷ rs) (s ∷ ss) = (leaves_choice c ≡ false → r ≡ s) × DifferInChoices cs rs ss
DifferInChoices cs rs ss = ⊥

-- the text answers the commands over the pieces: it is the texts of replies to them, and the mark says whether one is a refusal
pub record AnswersCommands (pieces : List PieceValue) (commands : List Command) (text : List ℕ) (refused : Bool) : Type 0 where
  pub replies : List Reply
  pub are : AreReplies pieces commands replies
  pub texts : text ≡ flat_map reply_text replies
  pub mark : refused ≡ list_any is_refusal replies

-- a text grew by one that answers the commands
abbrev pub PutsAnswers : List PieceValue → List Command → Bool → List ℕ → List ℕ → Type 0
PutsAnswers pieces commands refused before after = (text : List ℕ) × AnswersCommands pieces commands text refused × (after ≡ before ++ text)

-- the text answers the commands that the lines ask for, over no pieces to begin with; a submission whose document they cut short asks for `last`
pub record AnswersAll (last : List Command) (lines : List (List ℕ)) (text : List ℕ) (refused : Bool) : Type 0 where
  pub commands : List Command
  pub asked : AskFor last lines commands
  pub answers : AnswersCommands [] commands text refused

-- a run of the session on an input: the output answers its commands, where a submission that is cut short is a command to be refused. The mark says whether a reply is a refusal
abbrev pub IsRun : List ℕ → List ℕ → Bool → Type 0
IsRun input output refused = AnswersAll (command.CutOff ∷ []) (lines_of input) output refused

-- the pieces that stand after the commands of an input
abbrev pub pieces_of : List ℕ → List PieceValue
pieces_of input = fold pieces_after [] (commands_of (lines_of input))
