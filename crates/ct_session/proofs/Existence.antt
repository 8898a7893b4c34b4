-- Commands over pieces that stand have replies, and the pieces after them stand.
use Rattle.std.proofs.Common.{◌≡◌, ◌≤◌, ℕ, Bool, true, false, cond, List, [], ◌∷◌, length, Some, None, refl, sym, subst, ◌∙◌}
use Rattle.std.proofs.lemmas.List.Sorted.{length_permutation}
use Rattle.std.specs.Prelude.{fold}
use Rattle.std.specs.List.{flat_map, list_any, AllByRecursion}
use Rattle.ct_words.specs.declared.entry.Entry.{Entry}
use Rattle.ct_words.specs.declared.claim.Side.{Side}
use Rattle.ct_words.specs.declared.claim.Side.TheVariants.{Lower}
use Rattle.ct_words.specs.Code.{CodeValue}
use Rattle.ct_words.specs.Entry.{IsEntry, is_entry}
use Rattle.ct_io.specs.Lines.{lines_of}
use Rattle.ct_commands.specs.Command.{commands_of}
use Rattle.ct_commands.specs.declared.command.Command.{Command}
use Rattle.ct_commands.specs.declared.command.Command.TheVariants as command
use Rattle.ct_commands.proofs.Naming.{CommandIsNamed, AreNamed, commands_of-named}
use Rattle.ct_piece.specs.Piece.{PieceValue}
use Rattle.ct_piece.specs.Submission.{submitted}
use Rattle.ct_piece.specs.Withdrawal.{withdrawn, withdrawn_all}
use Rattle.ct_piece.specs.Standing.{AreStanding}
use Rattle.ct_piece.specs.Dump.{dump_text}
use Rattle.ct_kind.specs.Ascending.{ascending}
use Rattle.ct_kind.specs.Ascending.{code_at}
use Rattle.ct_piece.specs.Supports.{supports_of}
use Rattle.ct_kind.proofs.AscendingLemmas.{ascending-moved}
use Rattle.ct_kind.proofs.CodeAt.{code_at-sound}
use Rattle.ct_piece.proofs.StandingLemmas.{AreStanding-none, AreStanding-submitted, AreStanding-withdrawn}
use Rattle.ct_piece.proofs.TakenAlong.{AreStanding-withdrawn_all}
use Rattle.ct_rules.specs.Derivation.{IsBest}
use Rattle.ct_explain.specs.Explained.{explanation_text}
use Rattle.ct_explain.proofs.ExplainedBounds.{explained}
use Rattle.ct_derive.specs.Listed.{IsListedCode}
use Rattle.ct_words.specs.TableEntries.{column}
use Rattle.ct_session.specs.Reply.{IsReply, IsShowReply, IsTableReply, IsExplainReply, IsListReply, submission_reply, withdrawal_reply, withdrawal_all_reply, pieces_after}
use Rattle.ct_replies.specs.Refusals.{is_refusal}
use Rattle.ct_session.specs.Run.{AreReplies, AnswersCommands, IsRun, pieces_of}
use Rattle.ct_replies.specs.Text.{reply_text, ledger_text, listed_text}
use Rattle.ct_replies.specs.declared.reply.Reply.{Reply}
use Rattle.ct_replies.specs.declared.reply.Reply.TheVariants.{Shown, Table, Lines, Refused}
use Rattle.ct_replies.specs.declared.reply.Refusal.TheVariants as refusal
use Rattle.ct_session.proofs.Asked.{answers_all}
use Rattle.ct_session.proofs.BoundLemmas.{shown, some_bounds, some_bounds_of_all, column_entries}

-- the pieces after a command stand, where those before it do
pub AreStanding-after : (pieces : List PieceValue) (c : Command) → CommandIsNamed c → AreStanding pieces → AreStanding (pieces_after pieces c)
AreStanding-after pieces (command.Submission None document) named h = h
AreStanding-after pieces (command.Submission (Some id) document) named h = AreStanding-submitted pieces id document (submitted pieces id document) named refl h
AreStanding-after pieces (command.Withdraw id) named h = AreStanding-withdrawn pieces id h
AreStanding-after pieces (command.WithdrawAll id) named h = AreStanding-withdrawn_all pieces id h
AreStanding-after pieces command.CutOff named h = h
AreStanding-after pieces (command.Show numbers) named h = h
AreStanding-after pieces (command.Table numbers) named h = h
AreStanding-after pieces (command.Explain side numbers) named h = h
AreStanding-after pieces (command.List numbers) named h = h
AreStanding-after pieces command.Ledger named h = h
AreStanding-after pieces command.Dump named h = h
AreStanding-after pieces command.Unknown named h = h

-- and so do those after several
pub AreStanding-fold : (pieces : List PieceValue) (cs : List Command) → AreNamed cs → AreStanding pieces → AreStanding (fold pieces_after pieces cs)
AreStanding-fold pieces [] named h = h
AreStanding-fold pieces (c ∷ cs) named h = AreStanding-fold (pieces_after pieces c) cs named.1 (AreStanding-after pieces c named.0 h)

-- the pieces that an input leads to stand
pub AreStanding-input : (input : List ℕ) → AreStanding (pieces_of input)
AreStanding-input input = AreStanding-fold [] (commands_of (lines_of input)) (commands_of-named (lines_of input)) AreStanding-none

named_reply : (pieces : List PieceValue) (e : Entry) (b : Bool) → is_entry e ≡ b → AreStanding pieces → (r : Reply) × IsShowReply pieces (cond b (Some e) None) r
named_reply pieces e true entry h = let some = some_bounds pieces e h entry in (Shown some.0, record { bounds = some.0; of_entry = some.1; shown = refl })
named_reply pieces e false entry h = (Refused refusal.NoEntry, refl)

column_reply : (pieces : List PieceValue) (es : List Entry) → AllByRecursion IsEntry es → AreStanding pieces → (r : Reply) × IsTableReply pieces es r
column_reply pieces [] entries h = (Refused refusal.NoEntry, refl)
column_reply pieces (e ∷ es) entries h =
    let some = some_bounds_of_all pieces (e ∷ es) h entries in (Table some.0, record { bounds = some.0; of_entries = some.1; shown = refl })

explain_reply : (pieces : List PieceValue) (side : Side) (e : Entry) (b : Bool) → is_entry e ≡ b → AreStanding pieces
    → (r : Reply) × IsExplainReply pieces side (cond b (Some e) None) r
explain_reply pieces side e true entry h =
    let some = explained pieces side e h entry in
    (Lines (explanation_text pieces some.0), record { derivation = some.0; explains = some.1; shown = refl })
explain_reply pieces side e false entry h = (Refused refusal.NoEntry, refl)

-- a lower bound that is true is the size of some code, whose words have an order
some_code : (pieces : List PieceValue) (e : Entry) → AreStanding pieces → IsEntry e → (c : CodeValue) × IsListedCode (supports_of pieces) e c
some_code pieces e h entry =
    let bound = shown pieces Lower e h entry in
    let words = bound.1.truth.truth.0 in
    let size = bound.1.truth.truth.2 in
    let low = bound.1.truth.range.0 in
    let many : 1 ≤ length words = rw size low in
    let moved = length_permutation words (ascending words) (ascending-moved words) in (
      code_at e words,
      record {
        entry = refl;
        sound = code_at-sound e words entry many bound.1.truth.truth.1;
        best = subst (λ (v : ℕ). IsBest (supports_of pieces) (Lower, e) v) (sym size ∙ sym moved) bound.1.best;
      },
    )

list_reply : (pieces : List PieceValue) (e : Entry) (b : Bool) → is_entry e ≡ b → AreStanding pieces → (r : Reply) × IsListReply pieces (cond b (Some e) None) r
list_reply pieces e true entry h = let some = some_code pieces e h entry in (Lines (listed_text some.0), record { code = some.0; listed = some.1; shown = refl })
list_reply pieces e false entry h = (Refused refusal.NoEntry, refl)

-- a command has a reply
some_reply : (pieces : List PieceValue) (c : Command) → AreStanding pieces → (r : Reply) × IsReply pieces c r
some_reply pieces (command.Submission None document) h = (Refused refusal.NoCommand, refl)
some_reply pieces (command.Submission (Some id) document) h = (submission_reply id (submitted pieces id document), refl)
some_reply pieces command.CutOff h = (Refused refusal.CutOff, refl)
some_reply pieces (command.Withdraw id) h = (withdrawal_reply id (withdrawn pieces id), refl)
some_reply pieces (command.WithdrawAll id) h = (withdrawal_all_reply id pieces (withdrawn_all pieces id), refl)
some_reply pieces (command.Show numbers) h =
    let e : Entry = record { n = numbers.n; d = numbers.d; w = numbers.w } in
    named_reply pieces e (is_entry e) refl h
some_reply pieces (command.Table numbers) h = column_reply pieces (column numbers.d numbers.w) (column_entries numbers.d numbers.w) h
some_reply pieces (command.Explain side numbers) h =
    let e : Entry = record { n = numbers.n; d = numbers.d; w = numbers.w } in
    explain_reply pieces side e (is_entry e) refl h
some_reply pieces (command.List numbers) h =
    let e : Entry = record { n = numbers.n; d = numbers.d; w = numbers.w } in
    list_reply pieces e (is_entry e) refl h
some_reply pieces command.Ledger h = (Lines (ledger_text pieces), refl)
some_reply pieces command.Dump h = (Lines (dump_text pieces), refl)
some_reply pieces command.Unknown h = (Refused refusal.NoCommand, refl)

some_replies : (pieces : List PieceValue) (cs : List Command) → AreNamed cs → AreStanding pieces → (rs : List Reply) × AreReplies pieces cs rs
some_replies pieces [] named h = ([], tt)
some_replies pieces (c ∷ cs) named h =
    let first = some_reply pieces c h in
    let rest = some_replies (pieces_after pieces c) cs named.1 (AreStanding-after pieces c named.0 h) in
    (first.0 ∷ rest.0, (first.1, rest.1))

-- commands have a text that answers them
pub some_answers : (pieces : List PieceValue) (cs : List Command) → AreNamed cs → AreStanding pieces → (text : List ℕ) × (refused : Bool) × AnswersCommands pieces cs text refused
some_answers pieces cs named h =
    let all = some_replies pieces cs named h in
    (flat_map reply_text all.0, list_any is_refusal all.0, record { replies = all.0; are = all.1; texts = refl; mark = refl })

-- every input has a run
pub some_run : (input : List ℕ) → (output : List ℕ) × (refused : Bool) × IsRun input output refused
some_run input =
    let some = some_answers [] (commands_of (lines_of input)) (commands_of-named (lines_of input)) AreStanding-none in
    (some.0, some.1, answers_all _ (lines_of input) some.0 some.1 some.2)
