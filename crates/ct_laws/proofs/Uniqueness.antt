-- Two replies to a command over the same pieces are equal, unless it leaves a choice, and so are two runs of an input.
use Rattle.std.proofs.Common.{◌≡◌, ℕ, Bool, true, false, ◌||◌, List, [], ◌∷◌, length, Option, Some, None, refl, sym, ap, ◌∙◌, arith}
use Rattle.std.specs.List.{flat_map, list_any}
use Rattle.std.specs.Option.{is_some}
use Rattle.ct_words.specs.declared.entry.Entry.{Entry}
use Rattle.ct_words.specs.declared.claim.Side.{Side}
use Rattle.ct_text.specs.EntryNumbers.{named_entry}
use Rattle.ct_commands.specs.declared.command.Command.{Command}
use Rattle.ct_commands.specs.declared.command.Command.TheVariants as command
use Rattle.ct_piece.specs.Piece.{PieceValue}
use Rattle.ct_words.specs.TableEntries.{column}
use Rattle.ct_session.specs.Reply.{IsReply, IsShownEntry, IsShowReply, IsTableReply, IsExplainReply, IsListReply, leaves_choice, pieces_after}
use Rattle.ct_replies.specs.Refusals.{is_refusal}
use Rattle.ct_session.specs.Run.{AreReplies, AnswersCommands, DifferInChoices}
use Rattle.ct_replies.specs.Text.{reply_text}
use Rattle.ct_replies.specs.declared.reply.Reply.{Reply}
use Rattle.ct_replies.specs.declared.reply.Reply.TheVariants.{Shown, Table}
use Rattle.ct_session.proofs.BoundLemmas.{same_bounds, same_bounds_of_all}

or_parts : (a b : Bool) → (a || b) ≡ false → (a ≡ false) × (b ≡ false)
or_parts true b h = absurd cc
or_parts false b h = (refl, h)

one_shown : (pieces : List PieceValue) (e : Entry) (r s : Reply) → IsShownEntry pieces e r → IsShownEntry pieces e s → r ≡ s
one_shown pieces e r s h k = h.shown ∙ ap Shown (same_bounds pieces e h.bounds k.bounds h.of_entry k.of_entry) ∙ sym k.shown

one_table_reply : (pieces : List PieceValue) (es : List Entry) (r s : Reply) → IsTableReply pieces es r → IsTableReply pieces es s → r ≡ s
one_table_reply pieces [] r s h k = h ∙ sym k
one_table_reply pieces (e ∷ es) r s h k = h.shown ∙ ap Table (same_bounds_of_all pieces (e ∷ es) h.bounds k.bounds h.of_entries k.of_entries) ∙ sym k.shown

one_show_reply : (pieces : List PieceValue) (o : Option Entry) (r s : Reply) → IsShowReply pieces o r → IsShowReply pieces o s → r ≡ s
one_show_reply pieces None r s h k = h ∙ sym k
one_show_reply pieces (Some e) r s h k = one_shown pieces e r s h k

one_explain_reply : (pieces : List PieceValue) (side : Side) (o : Option Entry) (r s : Reply) → is_some o ≡ false → IsExplainReply pieces side o r
    → IsExplainReply pieces side o s → r ≡ s
one_explain_reply pieces side None r s none h k = h ∙ sym k
one_explain_reply pieces side (Some e) r s none h k = absurd cc

one_list_reply : (pieces : List PieceValue) (o : Option Entry) (r s : Reply) → is_some o ≡ false → IsListReply pieces o r → IsListReply pieces o s → r ≡ s
one_list_reply pieces None r s none h k = h ∙ sym k
one_list_reply pieces (Some e) r s none h k = absurd cc

-- a command that leaves no choice has one reply
pub one_reply_only : (pieces : List PieceValue) (c : Command) (r s : Reply) → leaves_choice c ≡ false → IsReply pieces c r → IsReply pieces c s → r ≡ s
one_reply_only pieces (command.Submission None document) r s none h k = h ∙ sym k
one_reply_only pieces (command.Submission (Some id) document) r s none h k = h ∙ sym k
one_reply_only pieces command.CutOff r s none h k = h ∙ sym k
one_reply_only pieces (command.Withdraw id) r s none h k = h ∙ sym k
one_reply_only pieces (command.WithdrawAll id) r s none h k = h ∙ sym k
one_reply_only pieces (command.Show numbers) r s none h k = one_show_reply pieces (named_entry numbers) r s h k
one_reply_only pieces (command.Table numbers) r s none h k = one_table_reply pieces (column numbers.d numbers.w) r s h k
one_reply_only pieces (command.Explain side numbers) r s none h k = one_explain_reply pieces side (named_entry numbers) r s none h k
one_reply_only pieces (command.List numbers) r s none h k = one_list_reply pieces (named_entry numbers) r s none h k
one_reply_only pieces command.Ledger r s none h k = h ∙ sym k
one_reply_only pieces command.Dump r s none h k = h ∙ sym k
one_reply_only pieces command.Unknown r s none h k = h ∙ sym k

-- a command whose reply leaves a choice where it names an entry of the table is refused where it names none, and nowhere else
one_explain_mark : (pieces : List PieceValue) (side : Side) (o : Option Entry) (r s : Reply) → IsExplainReply pieces side o r → IsExplainReply pieces side o s
    → is_refusal r ≡ is_refusal s
one_explain_mark pieces side None r s h k = ap is_refusal (h ∙ sym k)
one_explain_mark pieces side (Some e) r s h k = ap is_refusal h.shown ∙ sym (ap is_refusal k.shown)

one_list_mark : (pieces : List PieceValue) (o : Option Entry) (r s : Reply) → IsListReply pieces o r → IsListReply pieces o s → is_refusal r ≡ is_refusal s
one_list_mark pieces None r s h k = ap is_refusal (h ∙ sym k)
one_list_mark pieces (Some e) r s h k = ap is_refusal h.shown ∙ sym (ap is_refusal k.shown)

-- the replies to a command are refusals, or none of them is
one_mark : (pieces : List PieceValue) (c : Command) (r s : Reply) → IsReply pieces c r → IsReply pieces c s → is_refusal r ≡ is_refusal s
one_mark pieces (command.Submission id document) r s h k = ap is_refusal (one_reply_only pieces (command.Submission id document) r s refl h k)
one_mark pieces command.CutOff r s h k = ap is_refusal (one_reply_only pieces command.CutOff r s refl h k)
one_mark pieces (command.Withdraw id) r s h k = ap is_refusal (one_reply_only pieces (command.Withdraw id) r s refl h k)
one_mark pieces (command.WithdrawAll id) r s h k = ap is_refusal (one_reply_only pieces (command.WithdrawAll id) r s refl h k)
one_mark pieces (command.Show numbers) r s h k = ap is_refusal (one_reply_only pieces (command.Show numbers) r s refl h k)
one_mark pieces (command.Table numbers) r s h k = ap is_refusal (one_reply_only pieces (command.Table numbers) r s refl h k)
one_mark pieces (command.Explain side numbers) r s h k = one_explain_mark pieces side (named_entry numbers) r s h k
one_mark pieces (command.List numbers) r s h k = one_list_mark pieces (named_entry numbers) r s h k
one_mark pieces command.Ledger r s h k = ap is_refusal (one_reply_only pieces command.Ledger r s refl h k)
one_mark pieces command.Dump r s h k = ap is_refusal (one_reply_only pieces command.Dump r s refl h k)
one_mark pieces command.Unknown r s h k = ap is_refusal (one_reply_only pieces command.Unknown r s refl h k)

-- two lists of replies differ in choices only
pub differ_in_choices : (pieces : List PieceValue) (cs : List Command) (rs ss : List Reply) → AreReplies pieces cs rs → AreReplies pieces cs ss → DifferInChoices cs rs ss
differ_in_choices pieces [] [] [] h k = tt
differ_in_choices pieces [] [] (s ∷ ss) h k = absurd k
differ_in_choices pieces [] (r ∷ rs) ss h k = absurd h
differ_in_choices pieces (c ∷ cs) [] ss h k = absurd h
differ_in_choices pieces (c ∷ cs) (r ∷ rs) [] h k = absurd k
differ_in_choices pieces (c ∷ cs) (r ∷ rs) (s ∷ ss) h k =
    (λ none. one_reply_only pieces c r s none h.0 k.0, differ_in_choices (pieces_after pieces c) cs rs ss h.1 k.1)

-- and are as many
pub as_many : (pieces : List PieceValue) (cs : List Command) (rs ss : List Reply) → AreReplies pieces cs rs → AreReplies pieces cs ss → length rs ≡ length ss
as_many pieces [] [] [] h k = refl
as_many pieces [] [] (s ∷ ss) h k = absurd k
as_many pieces [] (r ∷ rs) ss h k = absurd h
as_many pieces (c ∷ cs) [] ss h k = absurd h
as_many pieces (c ∷ cs) (r ∷ rs) [] h k = absurd k
as_many pieces (c ∷ cs) (r ∷ rs) (s ∷ ss) h k = let rest = as_many (pieces_after pieces c) cs rs ss h.1 k.1 in omega arith

-- a refusal is among both, or among none
same_mark : (pieces : List PieceValue) (cs : List Command) (rs ss : List Reply) → AreReplies pieces cs rs → AreReplies pieces cs ss → list_any is_refusal rs ≡ list_any is_refusal ss
same_mark pieces [] [] [] h k = refl
same_mark pieces [] [] (s ∷ ss) h k = absurd k
same_mark pieces [] (r ∷ rs) ss h k = absurd h
same_mark pieces (c ∷ cs) [] ss h k = absurd h
same_mark pieces (c ∷ cs) (r ∷ rs) [] h k = absurd k
same_mark pieces (c ∷ cs) (r ∷ rs) (s ∷ ss) h k =
    ap (λ (b : Bool). b || list_any is_refusal rs) (one_mark pieces c r s h.0 k.0) ∙ ap (λ (b : Bool). is_refusal s || b) (same_mark (pieces_after pieces c) cs rs ss h.1 k.1)

-- commands that leave no choice have one list of replies
one_list : (pieces : List PieceValue) (cs : List Command) (rs ss : List Reply) → list_any leaves_choice cs ≡ false → AreReplies pieces cs rs → AreReplies pieces cs ss → rs ≡ ss
one_list pieces [] [] [] none h k = refl
one_list pieces [] [] (s ∷ ss) none h k = absurd k
one_list pieces [] (r ∷ rs) ss none h k = absurd h
one_list pieces (c ∷ cs) [] ss none h k = absurd h
one_list pieces (c ∷ cs) (r ∷ rs) [] none h k = absurd k
one_list pieces (c ∷ cs) (r ∷ rs) (s ∷ ss) none h k =
    let both = or_parts (leaves_choice c) (list_any leaves_choice cs) none in
    let first = one_reply_only pieces c r s both.0 h.0 k.0 in
    let rest = one_list (pieces_after pieces c) cs rs ss both.1 h.1 k.1 in
    ap (λ x. x ∷ rs) first ∙ ap (λ xs. s ∷ xs) rest

-- they have one text that answers them
pub one_text_only : (pieces : List PieceValue) (cs : List Command) (text other : List ℕ) (a b : Bool) → list_any leaves_choice cs ≡ false → AnswersCommands pieces cs text a → AnswersCommands pieces cs other b → text ≡ other
one_text_only pieces cs text other a b none h k = h.texts ∙ ap (flat_map reply_text) (one_list pieces cs h.replies k.replies none h.are k.are) ∙ sym k.texts

-- and all commands have one mark
pub one_mark_only : (pieces : List PieceValue) (cs : List Command) (text other : List ℕ) (a b : Bool) → AnswersCommands pieces cs text a → AnswersCommands pieces cs other b → a ≡ b
one_mark_only pieces cs text other a b h k = h.mark ∙ same_mark pieces cs h.replies k.replies h.are k.are ∙ sym k.mark
