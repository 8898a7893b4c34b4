-- How much is kept beside what is gathered: the text of one reply at most.
use Rattle.std.proofs.Common.{◌≡◌, List, ℕ, [], ◌∷◌, ◌++◌, Option, Some, None, refl, ◌∙◌, subst, inl, inr, append-nil}
use Rattle.std.specs.Prelude.{IsSome}
use Rattle.std.specs.List.{flat_map}
use Rattle.std.specs.Option.{option_to_list}
use Rattle.ct_commands.specs.Command.{completed_by}
use Rattle.ct_commands.specs.declared.command.Command.{Command}
use Rattle.ct_piece.specs.Piece.{PieceValue}
use Rattle.ct_session.specs.Run.{AreReplies}
use Rattle.ct_replies.specs.LongReply.{owed_text}
use Rattle.ct_replies.specs.Text.{reply_text}
use Rattle.ct_replies.specs.declared.reply.LongReply.{LongReply}
use Rattle.ct_replies.specs.declared.reply.Reply.{Reply}
use Rattle.ct_session.specs.Inside.State.{State, TakesLines}
use Rattle.ct_session.specs.Inside.Writing.{IsOneReply}

-- the replies to the command that a line completes, if it completes one
one_reply : (pieces : List PieceValue) (c : Option Command) (replies : List Reply) (text : List ℕ) → AreReplies pieces (option_to_list c ++ []) replies → text ≡ flat_map reply_text replies → IsOneReply text
one_reply pieces None [] text are texts = inl texts
one_reply pieces None (r ∷ rs) text are texts = absurd are
one_reply pieces (Some c) [] text are texts = absurd are
one_reply pieces (Some c) (r ∷ []) text are texts = inr (pieces, c, r, are.0, texts ∙ append-nil (reply_text r))
one_reply pieces (Some c) (r ∷ s ∷ rs) text are texts = absurd are.1

-- what is kept of a line is the reply to it, or nothing
pub kept_one : (s t : State) (line text : List ℕ) (owed : Option LongReply) (pieces : List PieceValue) → TakesLines s t (line ∷ []) (text ++ owed_text owed pieces) → (IsSome owed → text ≡ []) → IsOneReply text
kept_one s t line text None pieces h none =
    subst IsOneReply (append-nil text) (one_reply s.pieces (completed_by s.pending line) h.answers.replies (text ++ []) h.answers.are h.answers.texts)
kept_one s t line text (Some reply) pieces h none = inl (none refl)
