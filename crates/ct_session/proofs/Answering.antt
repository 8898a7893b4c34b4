-- Texts that answer commands: one command, several, and those that follow.
use Rattle.std.proofs.Common.{◌≡◌, ℕ, Bool, true, false, refl, ◌||◌, List, [], ◌∷◌, ◌++◌, Option, Some, None, sym, ap, subst, ◌∙◌, append-nil}
use Rattle.std.specs.Prelude.{fold}
use Rattle.std.specs.List.{flat_map, list_any}
use Rattle.std.specs.Option.{option_to_list}
use Rattle.std.proofs.Math.Bool.{or-false}
use Rattle.std.proofs.lemmas.Grind.{flat_map-append}
use Rattle.std.proofs.lemmas.List.Folds.{list_any-append}
use Rattle.ct_commands.specs.declared.command.Command.{Command}
use Rattle.ct_piece.specs.Piece.{PieceValue}
use Rattle.ct_session.specs.Reply.{IsReply, pieces_after}
use Rattle.ct_replies.specs.Refusals.{is_refusal}
use Rattle.ct_session.specs.Run.{AreReplies, AnswersCommands, PutsAnswers}
use Rattle.ct_commands.specs.Command.{completed, completed_by, open_after, cut_off}
use Rattle.ct_commands.specs.declared.command_reader.Pending.{Pending}
use Rattle.ct_commands.specs.declared.command.Command.TheVariants as command
use Rattle.ct_replies.specs.declared.reply.LongReply.{LongReply}
use Rattle.ct_replies.specs.declared.reply.Reply.TheVariants.{Lines, Refused}
use Rattle.ct_replies.specs.declared.reply.Refusal.TheVariants as refusal
use Rattle.ct_session.specs.Inside.State.{State, TakesLines, PutsLines}
use Rattle.ct_replies.specs.LongReply.{long_text}
use Rattle.ct_replies.specs.Text.{reply_text}
use Rattle.ct_replies.specs.declared.reply.Reply.{Reply}

-- one reply to one command
pub one_answer : (pieces : List PieceValue) (c : Command) (r : Reply) → IsReply pieces c r → AnswersCommands pieces (c ∷ []) (reply_text r) (is_refusal r)
one_answer pieces c r is = record {
  replies = r ∷ [];
  are = (is, tt);
  texts = sym (append-nil (reply_text r));
  mark = sym (or-false (is_refusal r));
}

-- replies to some commands, and then replies to others over the pieces after them
append_replies : (pieces : List PieceValue) (cs ds : List Command) (rs ss : List Reply) → AreReplies pieces cs rs → AreReplies (fold pieces_after pieces cs) ds ss → AreReplies pieces (cs ++ ds) (rs ++ ss)
append_replies pieces [] ds [] ss h k = k
append_replies pieces [] ds (r ∷ rs) ss h k = absurd h
append_replies pieces (c ∷ cs) ds [] ss h k = absurd h
append_replies pieces (c ∷ cs) ds (r ∷ rs) ss h k = (h.0, append_replies (pieces_after pieces c) cs ds rs ss h.1 k)

-- commands, and then others over the pieces after them
pub append_answers : (pieces : List PieceValue) (cs ds : List Command) (text more : List ℕ) (a b : Bool) → AnswersCommands pieces cs text a → AnswersCommands (fold pieces_after pieces cs) ds more b
    → AnswersCommands pieces (cs ++ ds) (text ++ more) (a || b)
append_answers pieces cs ds text more a b h k = record {
  replies = h.replies ++ k.replies;
  are = append_replies pieces cs ds h.replies k.replies h.are k.are;
  texts = ap (λ (t : List ℕ). t ++ more) h.texts ∙ ap (λ (t : List ℕ). flat_map reply_text h.replies ++ t) k.texts ∙ sym (flat_map-append reply_text h.replies k.replies);
  mark = ap (λ (m : Bool). m || b) h.mark ∙ ap (λ (m : Bool). list_any is_refusal h.replies || m) k.mark ∙ sym (list_any-append is_refusal h.replies k.replies);
}

-- a long reply that is put after a text answers its command
pub long_answers : (pieces after : List PieceValue) (c : Command) (r : LongReply) (before : List ℕ) → IsReply pieces c (Lines (long_text r after))
    → PutsAnswers pieces (c ∷ []) false before (before ++ long_text r after)
unfolding reply_text
long_answers pieces after c r before is = (long_text r after, one_answer pieces c (Lines (long_text r after)) is, refl)

pub or_true : (b : Bool) → true ≡ (b || true)
or_true true = refl
or_true false = refl

-- no command is answered by nothing
pub nothing_answered : (pieces : List PieceValue) (before : List ℕ) → PutsAnswers pieces [] false before before
nothing_answered pieces before = ([], record { replies = []; are = tt; texts = refl; mark = refl }, sym (append-nil before))

-- where no submission is open at the end of the input, there is no command
pub none_cut : (pieces : List PieceValue) (pending : Option Pending) (before : List ℕ) → [] ≡ cut_off pending → PutsAnswers pieces (cut_off pending) false before before
none_cut pieces pending before is = subst (λ (cs : List Command). PutsAnswers pieces cs false before before) is (nothing_answered pieces before)

-- one that is open is cut off, and refused
pub cut_answers : (pieces : List PieceValue) (pending : Option Pending) (c : Command) (before : List ℕ) → c ∷ [] ≡ cut_off pending
    → PutsAnswers pieces (cut_off pending) true before (before ++ reply_text (Refused refusal.CutOff))
cut_answers pieces None c before is = absurd cc
cut_answers pieces (Some p) c before is = (reply_text (Refused refusal.CutOff), one_answer pieces command.CutOff (Refused refusal.CutOff) refl, refl)

-- a line was taken: what stands after a text that was empty answers it
pub line_taken : (s t : State) (line before after : List ℕ) → before ≡ [] → PutsLines s t (line ∷ []) before after → TakesLines s t (line ∷ []) after
line_taken s t line before after none puts =
    subst (TakesLines s t (line ∷ [])) (sym (puts.2 ∙ ap (λ (b : List ℕ). b ++ puts.0) none)) puts.1

-- a line was taken whose command, if it completes one, is answered
pub puts_line : (s t : State) (line before after : List ℕ) (command : Option Command) (refused : Bool) → command ≡ completed_by s.pending line → t.pending ≡ open_after s.pending line
    → PutsAnswers s.pieces (option_to_list command) refused before after → t.pieces ≡ fold pieces_after s.pieces (option_to_list command) → t.refused ≡ (s.refused || refused)
    → PutsLines s t (line ∷ []) before after
puts_line s t line before after command refused completes pending puts pieces mark =
    let alone : option_to_list command ≡ completed s.pending (line ∷ []) = ap option_to_list completes ∙ sym (append-nil (option_to_list (completed_by s.pending line))) in (
      puts.0,
      record {
        refused = refused;
        answers = subst (λ (cs : List Command). AnswersCommands s.pieces cs puts.0 refused) alone puts.1;
        pieces = pieces ∙ ap (fold pieces_after s.pieces) alone;
        pending = pending;
        mark = mark;
      },
      puts.2,
    )
