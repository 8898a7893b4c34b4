-- The reply to a command over the pieces that stand, and the pieces after it.
use Rattle.std.specs.Prelude.{◌≡◌, ℕ, ◌-◌, length, Bool, false, List, [], ◌∷◌, Option, Some, None, Result, Ok, Err}
use Rattle.std.specs.List.{AllZip}
use Rattle.std.specs.Option.{is_some}
use Rattle.ct_words.specs.declared.entry.Entry.{Entry}
use Rattle.ct_words.specs.declared.claim.Side.{Side}
use Rattle.ct_words.specs.declared.claim.Side.TheVariants.{Lower, Upper}
use Rattle.ct_words.specs.Claim.{IsTrueClaim}
use Rattle.ct_words.specs.Code.{CodeValue}
use Rattle.ct_words.specs.TableEntries.{column}
use Rattle.ct_rules.specs.Derivation.{IsBest}
use Rattle.ct_rule_parts.specs.Slot.{claim_at}
use Rattle.ct_text.specs.EntryNumbers.{named_entry}
use Rattle.ct_commands.specs.declared.command.Command.{Command}
use Rattle.ct_commands.specs.declared.command.Command.TheVariants as command
use Rattle.ct_piece.specs.Piece.{PieceValue}
use Rattle.ct_piece.specs.Submission.{submitted, with_piece}
use Rattle.ct_piece.specs.Withdrawal.{withdrawn, withdrawn_all, left_by}
use Rattle.ct_piece.specs.Dump.{dump_text}
use Rattle.ct_piece.specs.Supports.{supports_of}
use Rattle.ct_kind.specs.declared.fault.SubmitFault.{SubmitFault}
use Rattle.ct_piece.specs.declared.fault.WithdrawFault.{WithdrawFault}
use Rattle.ct_derive.specs.Derivation.{DerivationValue}
use Rattle.ct_explain.specs.Explained.{ExplainsBest, explanation_text}
use Rattle.ct_derive.specs.Listed.{IsListedCode}
use Rattle.ct_replies.specs.Text.{ledger_text, listed_text}
use Rattle.ct_replies.specs.declared.reply.Bounds.{Bounds}
use Rattle.ct_replies.specs.declared.reply.Reply.{Reply}
use Rattle.ct_replies.specs.declared.reply.Reply.TheVariants.{Accepted, Withdrawn, WithdrawnAll, Shown, Table, Lines, Refused}
use Rattle.ct_replies.specs.declared.reply.Refusal.TheVariants as refusal

-- the reply to a submission
abbrev pub submission_reply : List ℕ → Result PieceValue SubmitFault → Reply
submission_reply id (Ok piece) = Accepted id piece.size
submission_reply id (Err fault) = Refused (refusal.Submission fault)

-- the reply to a withdrawal
abbrev pub withdrawal_reply : List ℕ → Result (List PieceValue) WithdrawFault → Reply
withdrawal_reply id (Ok left) = Withdrawn id
withdrawal_reply id (Err fault) = Refused (refusal.Withdrawal id fault)

-- the reply to a withdrawal with all that rests on the piece of the id: how many of the pieces go
abbrev pub withdrawal_all_reply : List ℕ → List PieceValue → Result (List PieceValue) WithdrawFault → Reply
withdrawal_all_reply id pieces (Ok left) = WithdrawnAll id (length pieces - length left)
withdrawal_all_reply id pieces (Err fault) = Refused (refusal.Withdrawal id fault)

-- the bound is the best that derivations over the pieces that stand give, and the claim of it is true
pub record IsShownBound (pieces : List PieceValue) (side : Side) (e : Entry) (v : ℕ) : Type 0 where
  pub best : IsBest (supports_of pieces) (side, e) v
  pub truth : IsTrueClaim (claim_at (side, e) v)

-- the bounds are those of the entry: both are the best over the pieces that stand, and true of codes
pub record AreBoundsOf (pieces : List PieceValue) (e : Entry) (bounds : Bounds) : Type 0 where
  pub entry : bounds.entry ≡ e
  pub lower : IsShownBound pieces Lower e bounds.lower
  pub upper : IsShownBound pieces Upper e bounds.upper

-- the bounds of an entry are shown
pub record IsShownEntry (pieces : List PieceValue) (e : Entry) (reply : Reply) : Type 0 where
  pub bounds : Bounds
  pub of_entry : AreBoundsOf pieces e bounds
  pub shown : reply ≡ Shown bounds

-- the reply to `show`: the bounds of the entry that it names, or a refusal where it names none of the table
abbrev pub IsShowReply : List PieceValue → Option Entry → Reply → Type 0
IsShowReply pieces None reply = reply ≡ Refused refusal.NoEntry
IsShowReply pieces (Some e) reply = IsShownEntry pieces e reply

-- the bounds of all entries of a column are shown, one after the other
pub record IsColumn (pieces : List PieceValue) (entries : List Entry) (reply : Reply) : Type 0 where
  pub bounds : List Bounds
  pub of_entries : AllZip (AreBoundsOf pieces) entries bounds
  pub shown : reply ≡ Table bounds

-- the reply to `table`: the bounds of the column that it names, or a refusal where this has no entry
abbrev pub IsTableReply : List PieceValue → List Entry → Reply → Type 0
IsTableReply pieces [] reply = reply ≡ Refused refusal.NoEntry
IsTableReply pieces (e ∷ entries) reply = IsColumn pieces (e ∷ entries) reply

-- the document of a derivation is shown, which explains the best bound on this side of an entry
pub record IsExplained (pieces : List PieceValue) (side : Side) (e : Entry) (reply : Reply) : Type 0 where
  pub derivation : DerivationValue
  pub explains : ExplainsBest pieces side e derivation
  pub shown : reply ≡ Lines (explanation_text pieces derivation)

-- the reply to `explain`: the best bound on this side of the entry that it names is explained; or a refusal where it names none of the table
abbrev pub IsExplainReply : List PieceValue → Side → Option Entry → Reply → Type 0
IsExplainReply pieces side None reply = reply ≡ Refused refusal.NoEntry
IsExplainReply pieces side (Some e) reply = IsExplained pieces side e reply

-- a code of an entry is shown, which has just as many words as the best lower bound over the pieces that stand says
pub record IsListed (pieces : List PieceValue) (e : Entry) (reply : Reply) : Type 0 where
  pub code : CodeValue
  pub listed : IsListedCode (supports_of pieces) e code
  pub shown : reply ≡ Lines (listed_text code)

-- the reply to `list`: a code of the entry that it names is shown; or a refusal where it names none of the table
abbrev pub IsListReply : List PieceValue → Option Entry → Reply → Type 0
IsListReply pieces None reply = reply ≡ Refused refusal.NoEntry
IsListReply pieces (Some e) reply = IsListed pieces e reply

-- the reply to a command over the pieces that stand
abbrev pub IsReply : List PieceValue → Command → Reply → Type 0
IsReply pieces (command.Submission None document) reply = reply ≡ Refused refusal.NoCommand
IsReply pieces (command.Submission (Some id) document) reply = reply ≡ submission_reply id (submitted pieces id document)
IsReply pieces command.CutOff reply = reply ≡ Refused refusal.CutOff
IsReply pieces (command.Withdraw id) reply = reply ≡ withdrawal_reply id (withdrawn pieces id)
IsReply pieces (command.WithdrawAll id) reply = reply ≡ withdrawal_all_reply id pieces (withdrawn_all pieces id)
IsReply pieces (command.Show numbers) reply = IsShowReply pieces (named_entry numbers) reply
IsReply pieces (command.Table numbers) reply = IsTableReply pieces (column numbers.d numbers.w) reply
IsReply pieces (command.Explain side numbers) reply = IsExplainReply pieces side (named_entry numbers) reply
IsReply pieces (command.List numbers) reply = IsListReply pieces (named_entry numbers) reply
IsReply pieces command.Ledger reply = reply ≡ Lines (ledger_text pieces)
IsReply pieces command.Dump reply = reply ≡ Lines (dump_text pieces)
IsReply pieces command.Unknown reply = reply ≡ Refused refusal.NoCommand

-- whether a command leaves a choice: several replies to it may be right, as any derivation may explain a bound of an entry of the table, and any
-- code of the size may be listed for it
abbrev pub leaves_choice : Command → Bool
leaves_choice (command.Submission id document) = false
leaves_choice command.CutOff = false
leaves_choice (command.Withdraw id) = false
leaves_choice (command.WithdrawAll id) = false
leaves_choice (command.Show numbers) = false
leaves_choice (command.Table numbers) = false
leaves_choice (command.Explain side numbers) = is_some (named_entry numbers)
leaves_choice (command.List numbers) = is_some (named_entry numbers)
leaves_choice command.Ledger = false
leaves_choice command.Dump = false
leaves_choice command.Unknown = false

-- the pieces that stand after a command: accepted ones come, withdrawn ones go, and every other command leaves them as they are
abbrev pub pieces_after : List PieceValue → Command → List PieceValue
pieces_after pieces (command.Submission None document) = pieces
pieces_after pieces (command.Submission (Some id) document) = with_piece pieces (submitted pieces id document)
pieces_after pieces (command.Withdraw id) = left_by pieces (withdrawn pieces id)
pieces_after pieces (command.WithdrawAll id) = left_by pieces (withdrawn_all pieces id)
pieces_after pieces c = pieces
