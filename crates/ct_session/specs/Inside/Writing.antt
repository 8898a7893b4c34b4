-- How the replies to lines are put, and how a session is broken off.
use Rattle.std.specs.Prelude.{◌≡◌, ◌⊎◌, ℕ, List, [], ◌∷◌}
use Rattle.ct_io.specs.Buffered.{Buffered, Puts, Stops}
use Rattle.ct_io.specs.Reader.{Reader, NeedsNoRead}
use Rattle.ct_io.specs.declared.run_fault.RunFault.{RunFault}
use Rattle.ct_io.specs.declared.run_fault.RunFault.TheVariants.{Write, Memory}
use Rattle.ct_commands.specs.declared.command.Command.{Command}
use Rattle.ct_piece.specs.Piece.{PieceValue}
use Rattle.ct_replies.specs.Text.{reply_text}
use Rattle.ct_replies.specs.declared.reply.Reply.{Reply}
use Rattle.ct_session.specs.Reply.{IsReply}
use Rattle.ct_session.specs.Inside.State.{State, TakesLines}

-- nothing is gathered, or the reader needs no read
abbrev pub IsReady : List ℕ → Reader → Type 0
IsReady gathered reader = (gathered ≡ []) ⊎ NeedsNoRead reader.held reader.ended

-- the reply to one command over some pieces, or nothing
abbrev pub IsOneReply : List ℕ → Type 0
IsOneReply text = (text ≡ []) ⊎ ((pieces : List PieceValue) × (c : Command) × (reply : Reply) × IsReply pieces c reply × (text ≡ reply_text reply))

-- what was gathered is written whole, and the fault stays; or the sink failed on the way
abbrev pub BreaksOff : RunFault → RunFault → Buffered → Buffered → Type 0
BreaksOff fault result old new = ((result ≡ fault) × Puts old new [] × (new.gathered ≡ [])) ⊎ ((result ≡ Write) × Stops old new [])

-- a line was answered: a text with the reply was put
abbrev pub AnswersLine : State → State → List ℕ → Buffered → Buffered → Type 0
AnswersLine s t line old new = (text : List ℕ) × TakesLines s t (line ∷ []) text × Puts old new text

-- memory ran out before a line was answered, and what was gathered is written; or the sink failed on the way
abbrev pub BreaksOffAt : RunFault → State → State → List ℕ → Buffered → Buffered → Type 0
BreaksOffAt fault s t line old new = BreaksOff Memory fault old new ⊎ ((text : List ℕ) × TakesLines s t (line ∷ []) text × (fault ≡ Write) × Stops old new text)
