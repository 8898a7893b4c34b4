-- Each answer in the output of a run is true.
use Rattle.std.proofs.Common.{◌≡◌, ℕ, ◌-◌, Bool, List, [], ◌∷◌, ◌++◌, length, map, slice_get, Option, Some, None, Result, Ok, Err, IfErr, IsTrue, refl, sym, ap, subst, ◌∙◌, append-nil, append_assoc}
use Rattle.std.specs.Prelude.{codes}
use Rattle.std.specs.Fmt.{decimal}
use Rattle.std.specs.List.{AllZip, flat_map}
use Rattle.ct_words.specs.declared.entry.Entry.{Entry}
use Rattle.ct_words.specs.declared.claim.Side.{Side}
use Rattle.ct_words.specs.Code.{IsCodeOf, IsTrueLower, IsTrueUpper}
use Rattle.ct_words.specs.TableEntries.{column}
use Rattle.ct_io.specs.Lines.{lines_of}
use Rattle.ct_text.specs.EntryNumbers.{named_entry}
use Rattle.ct_commands.specs.declared.command.Command.{Command}
use Rattle.ct_commands.specs.declared.command.Command.TheVariants as command
use Rattle.ct_commands.proofs.Inputs.{asked_once}
use Rattle.ct_commands.proofs.Naming.{CommandIsNamed, AreNamed, commands_of-named}
use Rattle.ct_names.specs.Id.{is_id}
use Rattle.ct_files.proofs.RefusalTexts.{NamesById, of_submit_fault}
use Rattle.ct_files.proofs.UnbrokenTexts.{IsUnbroken, literal, joined, of_id, of_decimal}
use Rattle.ct_piece.proofs.RefusedPieces.{NamesUser, submitted-named, withdrawn-named, withdrawn_all-named, of_withdraw_fault, of_size}
use Rattle.ct_piece.specs.Piece.{PieceValue}
use Rattle.ct_piece.specs.declared.fault.WithdrawFault.{WithdrawFault}
use Rattle.ct_piece.specs.Dump.{piece_dump, dump_text}
use Rattle.ct_piece.specs.Submission.{submitted}
use Rattle.ct_piece.specs.Text.{size_text, piece_text}
use Rattle.ct_piece.specs.Withdrawal.{withdrawn, withdrawn_all}
use Rattle.ct_piece.specs.Standing.{AreStanding}
use Rattle.ct_piece.proofs.StandingLemmas.{AreStanding-none}
use Rattle.ct_kind.specs.declared.fault.SubmitFault.{SubmitFault}
use Rattle.ct_text.specs.DocumentLines.{line_count}
use Rattle.ct_text.specs.declared.document_lines.TheConstants.{LINE_FEED}
use Rattle.ct_derive.specs.Text.{block_text, lines_text}
use Rattle.ct_replies.specs.Text.{ended, bounds_line, code_text, ledger_text, refusal_text, reply_text}
use Rattle.ct_replies.specs.declared.reply.Bounds.{Bounds}
use Rattle.ct_replies.specs.declared.reply.Reply.{Reply}
use Rattle.ct_replies.specs.declared.reply.Reply.TheVariants.{Lines, Refused}
use Rattle.ct_replies.specs.declared.reply.Refusal.{Refusal}
use Rattle.ct_replies.specs.declared.reply.Refusal.TheVariants as refusal
use Rattle.ct_session.specs.Reply.{AreBoundsOf, IsReply, IsShowReply, IsTableReply, IsExplainReply, IsListReply, submission_reply, withdrawal_reply, withdrawal_all_reply, pieces_after}
use Rattle.ct_session.specs.Run.{AreReplies, IsRun}
use Rattle.ct_session.proofs.Existence.{AreStanding-after}
use Rattle.ct_session.specs.Truth.{IsTrueLine, AreTrueLines, AreWholeLines, IsTrueList, IsTrueShow, IsTrueTable, IsTrueListing, IsOneLine, IsTrueAnswer, AreAnswers}

-- bounds that are shown are true
true_line : (pieces : List PieceValue) (e : Entry) (b : Bounds) → AreBoundsOf pieces e b → IsTrueLine e (bounds_line b)
true_line pieces e b h =
    subst (λ (f : Entry). IsTrueLine f (bounds_line b)) h.entry
    (record {
      lower = b.lower;
      upper = b.upper;
      attained = subst (λ (f : Entry). IsTrueLower f b.lower) (sym h.entry) h.lower.truth.truth;
      limited = subst (λ (f : Entry). IsTrueUpper f b.upper) (sym h.entry) h.upper.truth.truth;
      spelled = refl;
    })

true_lines : (pieces : List PieceValue) (entries : List Entry) (bounds : List Bounds) → AllZip (AreBoundsOf pieces) entries bounds
    → (lines : List (List ℕ)) × AllZip IsTrueLine entries lines × (flat_map bounds_line bounds ≡ flat_map (λ line. line) lines)
true_lines pieces [] [] h = ([], tt, refl)
true_lines pieces [] (b ∷ bs) h = absurd h
true_lines pieces (e ∷ es) [] h = absurd h
true_lines pieces (e ∷ es) (b ∷ bs) h =
    let (lines, each, text) = true_lines pieces es bs h.1 in
    (bounds_line b ∷ lines, (true_line pieces e b h.0, each), ap (λ (t : List ℕ). bounds_line b ++ t) text)

true_show : (pieces : List PieceValue) (o : Option Entry) (r : Reply) → IsShowReply pieces o r → IsTrueShow o (reply_text r)
unfolding reply_text
true_show pieces None r h = ap reply_text h
true_show pieces (Some e) r h = subst (λ (s : Reply). IsTrueLine e (reply_text s)) (sym h.shown) (true_line pieces e h.bounds h.of_entry)

true_table : (pieces : List PieceValue) (entries : List Entry) (r : Reply) → IsTableReply pieces entries r → IsTrueTable entries (reply_text r)
unfolding reply_text
true_table pieces [] r h = ap reply_text h
true_table pieces (e ∷ es) r h =
    let (lines, each, text) = true_lines pieces (e ∷ es) h.bounds h.of_entries in
    record { lines = lines; each = each; spelled = ap reply_text h.shown ∙ text }

true_listing : (pieces : List PieceValue) (o : Option Entry) (r : Reply) → IsListReply pieces o r → IsTrueListing o (reply_text r)
unfolding reply_text
true_listing pieces None r h = ap reply_text h
true_listing pieces (Some e) r h = record {
  words = h.code.words;
  code = subst (λ (f : Entry). IsCodeOf f h.code.words) h.listed.entry h.listed.sound.code;
  ascending = h.listed.sound.ascending;
  spelled = ap reply_text h.shown ∙ ap (λ (f : Entry). code_text f h.code.words) h.listed.entry;
}

-- a text without a line feed, and one after it, are one line
one_line : (line : List ℕ) → IsUnbroken line → IsOneLine (ended line)
one_line line h = (line, h.bytes, refl)

-- a refusal is one line, where its text has no line feed
refused : (why : Refusal) (r : Reply) → r ≡ Refused why → IsUnbroken (refusal_text why) → IsOneLine (reply_text r)
unfolding reply_text
refused why r h free = subst IsOneLine (sym (ap reply_text h)) (one_line (codes "refused " ++ refusal_text why) (joined (literal (codes "refused ") refl) free))

line_of_submission : (id : List ℕ) (made : Result PieceValue SubmitFault) (r : Reply) → IsTrue (is_id id) → IfErr made NamesById → r ≡ submission_reply id made → IsOneLine (reply_text r)
unfolding reply_text
line_of_submission id (Ok piece) r named by_id h =
    subst IsOneLine (sym (ap reply_text h))
    (one_line (codes "accepted " ++ id ++ size_text piece.size) (joined (joined (literal (codes "accepted ") refl) (of_id id named)) (of_size piece.size)))
line_of_submission id (Err fault) r named by_id h = refused (refusal.Submission fault) r h (of_submit_fault fault by_id)

line_of_withdrawal : (id : List ℕ) (left : Result (List PieceValue) WithdrawFault) (r : Reply) → IsTrue (is_id id) → IfErr left NamesUser → r ≡ withdrawal_reply id left
    → IsOneLine (reply_text r)
unfolding reply_text
line_of_withdrawal id (Ok left) r named by_id h =
    subst IsOneLine (sym (ap reply_text h)) (one_line (codes "withdrawn " ++ id) (joined (literal (codes "withdrawn ") refl) (of_id id named)))
line_of_withdrawal id (Err fault) r named by_id h = refused (refusal.Withdrawal id fault) r h (of_withdraw_fault id fault named by_id)

line_of_withdrawal_of_all : (id : List ℕ) (pieces : List PieceValue) (left : Result (List PieceValue) WithdrawFault) (r : Reply) → IsTrue (is_id id) → IfErr left NamesUser
    → r ≡ withdrawal_all_reply id pieces left → IsOneLine (reply_text r)
unfolding reply_text
line_of_withdrawal_of_all id pieces (Ok left) r named by_id h =
    let count = length pieces - length left in
    subst IsOneLine (sym (ap reply_text h))
    (one_line (codes "withdrawn " ++ id ++ codes " count " ++ decimal count)
    (joined (joined (joined (literal (codes "withdrawn ") refl) (of_id id named)) (literal (codes " count ") refl)) (of_decimal count)))
line_of_withdrawal_of_all id pieces (Err fault) r named by_id h = refused (refusal.Withdrawal id fault) r h (of_withdraw_fault id fault named by_id)

lines_of_explanation : (pieces : List PieceValue) (side : Side) (o : Option Entry) (r : Reply) → IsExplainReply pieces side o r → AreWholeLines (reply_text r)
unfolding reply_text
lines_of_explanation pieces side None r h = (codes "refused entry", ap reply_text h)
lines_of_explanation pieces side (Some e) r h =
    let d = h.derivation in
    let before = codes "derivation" ++ LINE_FEED ∷ [] ++ flat_map (λ p. block_text (λ p. p.id) (λ p. p.document) (slice_get pieces p)) d.pieces
    ++ lines_text (map (λ p. p.id) pieces) 1 d.lines in
    (before ++ codes "done", ap reply_text h.shown)

-- a text that is whole lines, and more of them
more_lines : (text front : List ℕ) → AreWholeLines (text ++ ended front)
more_lines text front = (text ++ front, sym (append_assoc text front (LINE_FEED ∷ [])))

-- the line before a document in a dump
submission_line : List ℕ → List ℕ → List ℕ
submission_line id document = codes "submit " ++ id ++ codes " lines " ++ decimal (line_count document) ++ LINE_FEED ∷ []

-- the comment that a dump begins with
dump_heading : List PieceValue → List ℕ
dump_heading pieces = codes "# dump of " ++ decimal (length pieces) ++ codes " pieces"

lines_of_dump : (text : List ℕ) (pieces : List PieceValue) → AreWholeLines text → AreWholeLines (text ++ flat_map piece_dump pieces)
unfolding submission_line
lines_of_dump text [] (front, is) = (front, append-nil text ∙ is)
lines_of_dump text (p ∷ ps) whole =
    let (front, is) = lines_of_dump (text ++ piece_dump p) ps (more_lines text (submission_line p.id p.document ++ p.document)) in
    (front, sym (append_assoc text (piece_dump p) (flat_map piece_dump ps)) ∙ is)

lines_of_reply : (text : List ℕ) (r : Reply) → r ≡ Lines text → AreWholeLines text → AreWholeLines (reply_text r)
unfolding reply_text
lines_of_reply text r h (front, is) = (front, ap reply_text h ∙ is)

lines_of_ledger : (pieces : List PieceValue) (r : Reply) → r ≡ Lines (ledger_text pieces) → AreWholeLines (reply_text r)
lines_of_ledger pieces r h =
    lines_of_reply (ledger_text pieces) r h (more_lines (flat_map (λ p. ended (piece_text p)) pieces) (codes "pieces " ++ decimal (length pieces)))

-- so each answer to a command is true
pub true_answer : (pieces : List PieceValue) (c : Command) (r : Reply) → CommandIsNamed c → AreStanding pieces → IsReply pieces c r → IsTrueAnswer c (reply_text r)
unfolding dump_heading
true_answer pieces (command.Submission None document) r named stand h = refused refusal.NoCommand r h (literal (codes "command") refl)
true_answer pieces (command.Submission (Some id) document) r named stand h = line_of_submission id (submitted pieces id document) r named (submitted-named pieces id document) h
true_answer pieces command.CutOff r named stand h = refused refusal.CutOff r h (literal (codes "cut") refl)
true_answer pieces (command.Withdraw id) r named stand h = line_of_withdrawal id (withdrawn pieces id) r named (withdrawn-named pieces id stand) h
true_answer pieces (command.WithdrawAll id) r named stand h = line_of_withdrawal_of_all id pieces (withdrawn_all pieces id) r named (withdrawn_all-named pieces id) h
true_answer pieces (command.Show numbers) r named stand h = true_show pieces (named_entry numbers) r h
true_answer pieces (command.Table numbers) r named stand h = true_table pieces (column numbers.d numbers.w) r h
true_answer pieces (command.Explain side numbers) r named stand h = lines_of_explanation pieces side (named_entry numbers) r h
true_answer pieces (command.List numbers) r named stand h = true_listing pieces (named_entry numbers) r h
true_answer pieces command.Ledger r named stand h = lines_of_ledger pieces r h
true_answer pieces command.Dump r named stand h = lines_of_reply (dump_text pieces) r h (lines_of_dump _ pieces (dump_heading pieces, refl))
true_answer pieces command.Unknown r named stand h = refused refusal.NoCommand r h (literal (codes "command") refl)

answers_of : (IsRight : Command → List ℕ → Type 0) (right : (pieces : List PieceValue) (c : Command) (r : Reply) → CommandIsNamed c → AreStanding pieces → IsReply pieces c r → IsRight c (reply_text r))
    (pieces : List PieceValue) (cs : List Command) (rs : List Reply) → AreNamed cs → AreStanding pieces → AreReplies pieces cs rs
    → (answers : List (List ℕ)) × AllZip IsRight cs answers × (flat_map reply_text rs ≡ flat_map (λ answer. answer) answers)
answers_of IsRight right pieces [] [] named stand h = ([], tt, refl)
answers_of IsRight right pieces [] (r ∷ rs) named stand h = absurd h
answers_of IsRight right pieces (c ∷ cs) [] named stand h = absurd h
answers_of IsRight right pieces (c ∷ cs) (r ∷ rs) named stand h =
    let (answers, each, text) = answers_of IsRight right (pieces_after pieces c) cs rs named.1 (AreStanding-after pieces c named.0 stand) h.1 in
    (reply_text r ∷ answers, (right pieces c r named.0 stand h.0, each), ap (λ (t : List ℕ). reply_text r ++ t) text)

-- what holds of each reply to a command over pieces that stand holds of the answers in the output of a run
pub run_answers : (IsRight : Command → List ℕ → Type 0)
    (right : (pieces : List PieceValue) (c : Command) (r : Reply) → CommandIsNamed c → AreStanding pieces → IsReply pieces c r → IsRight c (reply_text r))
    (input output : List ℕ) (refused : Bool) → IsRun input output refused → AreAnswers IsRight input output
run_answers IsRight right input output refused run =
    let named = subst AreNamed (asked_once (command.CutOff ∷ []) (lines_of input) run.commands run.asked) (commands_of-named (lines_of input)) in
    let (answers, each, text) = answers_of IsRight right [] run.commands run.answers.replies named AreStanding-none run.answers.are in
    record { commands = run.commands; asked = run.asked; answers = answers; each = each; spelled = run.answers.texts ∙ text }
