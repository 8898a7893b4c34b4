-- The dump of pieces that stand leads to them.
use Rattle.std.proofs.Common.{◌≡◌, ℕ, ◌^◌, ◌<◌, ◌≤◌, Bool, true, false, cond, not, List, [], ◌∷◌, ◌++◌, map, length, Option, Some, None, Result, Ok, Err, refl, sym, subst, ap, ◌∙◌, append_assoc, append-nil, length-append, codes, arith}
use Rattle.std.proofs.Math.ListN.{get_or-append}
use Rattle.std.proofs.Math.Seq.{get_or-append_seam}
use Rattle.std.specs.Prelude.{All, fold}
use Rattle.std.specs.List.{flat_map, list_any}
use Rattle.std.specs.Str.{bytes_eq}
use Rattle.std.specs.Fmt.{decimal}
use Rattle.std.proofs.lemmas.List.Elements.{All-head, All-tail, All-push, All-filter, All-nil}
use Rattle.std.proofs.lemmas.List.Sums.{sum_by-append, sum_by-cons, count_by-le-length}
use Rattle.ct_text.specs.declared.document_lines.TheConstants.{LINE_FEED}
use Rattle.ct_io.specs.Lines.{lines_of, IsLine}
use Rattle.ct_io.proofs.LinesLemmas.{is_feed, lines_of-next}
use Rattle.ct_names.specs.Id.{is_id}
use Rattle.ct_fields.specs.declared.document.TheConstants.{MAX_DOCUMENT}
use Rattle.ct_files.specs.Document.{document_read_of}
use Rattle.ct_files.proofs.Documents.{document_read_of-short}
use Rattle.ct_commands.specs.Form.{form_of}
use Rattle.ct_commands.specs.Command.{commands_of}
use Rattle.ct_commands.specs.declared.form.Form.TheVariants.{Nothing}
use Rattle.ct_commands.specs.declared.command.Command.{Command}
use Rattle.ct_commands.specs.declared.command.Command.TheVariants as command
use Rattle.ct_commands.proofs.SpacedWords.{known_word, decimal_word, IsLine-words}
use Rattle.ct_commands.proofs.Submissions.{alone}
use Rattle.ct_commands.proofs.WrittenSubmissions.{written_is_read}
use Rattle.ct_kind.specs.Named.{NamedCode}
use Rattle.ct_piece.specs.Piece.{PieceValue, has_id, first_user, stored_by}
use Rattle.ct_piece.specs.Codes.{codes_of}
use Rattle.ct_piece.specs.Submission.{piece_from, submitted, with_piece}
use Rattle.ct_piece.specs.Withdrawal.{without, withdrawn, unless_used, taken_along, is_id_among, without_all, withdrawn_all, left_by}
use Rattle.ct_piece.specs.Standing.{AreStanding, IsMade}
use Rattle.ct_piece.specs.Dump.{piece_dump, dump_text}
use Rattle.ct_kind.specs.declared.fault.SubmitFault.{SubmitFault}
use Rattle.ct_piece.specs.declared.fault.WithdrawFault.{WithdrawFault}
use Rattle.ct_piece.specs.declared.fault.WithdrawFault.TheVariants as withdraw
use Rattle.ct_piece.proofs.CodeLemmas.{AreMade-back}
use Rattle.ct_piece.proofs.StandingLemmas.{WasMade, submitted-ok, submitted-from, piece_from-names, piece_from-within}
use Rattle.ct_piece.proofs.Accepting.{not_taken}
use Rattle.ct_session.specs.Reply.{pieces_after, submission_reply}
use Rattle.ct_replies.specs.Refusals.{is_refusal}
use Rattle.ct_session.proofs.Asked.{answers_all}
use Rattle.ct_session.specs.Run.{AreReplies, AnswersCommands, IsRun, pieces_of}
use Rattle.ct_replies.specs.Text.{reply_text}
use Rattle.ct_replies.specs.declared.reply.Reply.{Reply}
use Rattle.ct_replies.specs.declared.reply.Reply.TheVariants.{Accepted}
use Rattle.ct_laws.specs.Acceptance.{acceptance_text}

-- the command that a piece is dumped as
abbrev pub submission_of : PieceValue → Command
submission_of p = command.Submission (Some p.id) p.document

-- the documents of the pieces are within the limit on bytes
abbrev pub AreShort : List PieceValue → Type 0
AreShort pieces = All (λ (p : PieceValue). length p.document ≤ MAX_DOCUMENT) pieces

AreShort-head : (p : PieceValue) (ps : List PieceValue) → AreShort (p ∷ ps) → length p.document ≤ MAX_DOCUMENT
AreShort-head p ps h = All-head (λ (q : PieceValue). length q.document ≤ MAX_DOCUMENT) p ps h

AreShort-tail : (p : PieceValue) (ps : List PieceValue) → AreShort (p ∷ ps) → AreShort ps
AreShort-tail p ps h = All-tail (λ (q : PieceValue). length q.document ≤ MAX_DOCUMENT) p ps h

-- a document within the limit makes what it makes without it
within-made : (known : List NamedCode) (p : PieceValue) → length p.document ≤ MAX_DOCUMENT → IsMade known p → piece_from known p.id p.document (document_read_of p.document) ≡ Ok p
within-made known p short made = ap (piece_from known p.id p.document) (document_read_of-short p.document short) ∙ made

-- a piece that stands after others is made over them
made_again : (front : List PieceValue) (p : PieceValue) (back : List PieceValue) → AreStanding (front ++ p ∷ back) → length p.document ≤ MAX_DOCUMENT → WasMade front p.id p.document p
made_again front p back h short =
    let all = length-append front (p ∷ back) in
    let stored = sum_by-append stored_by front (p ∷ back) in
    let stored_back = sum_by-cons stored_by p back in
    let within : length front < length (front ++ p ∷ back) = omega (arith, all) in
    record {
      free = not_taken p.id front
          (λ k d below same. h.different k (length front) d below within
          (ap (λ (q : PieceValue). q.id) (get_or-append front (p ∷ back) d k below) ∙ same ∙ ap (λ (q : PieceValue). q.id) (sym (get_or-append_seam front p back d))));
      room = omega (arith, all, h.few);
      made = let own = AreMade-back [] front (p ∷ back) h.made in within-made (codes_of front) p short own.0;
      small = omega (arith, stored, stored_back, h.small);
    }

-- submitting pieces that stand after others brings them back
pub brought_back : (front back : List PieceValue) → AreStanding (front ++ back) → AreShort back → fold pieces_after front (map submission_of back) ≡ front ++ back
brought_back front [] h short = sym (append-nil front)
brought_back front (p ∷ back) h short =
    ap (λ (made : Result PieceValue SubmitFault). fold pieces_after (with_piece front made) (map submission_of back)) (submitted-from front p.id p.document p (made_again front p back h (AreShort-head p back short)))
    ∙ brought_back (front ++ p ∷ []) back (subst AreStanding (sym (append_assoc front (p ∷ []) back)) h) (AreShort-tail p back short)
    ∙ append_assoc front (p ∷ []) back

-- the id is an id
abbrev IsNamed : PieceValue → Type 0
IsNamed p = is_id p.id ≡ true

-- the dump of a piece is a submission
pub piece_dump-command : (p : PieceValue) (rest : List ℕ) → length p.document ≤ MAX_DOCUMENT → IsNamed p → commands_of (lines_of (piece_dump p ++ rest)) ≡ submission_of p ∷ commands_of (lines_of rest)
piece_dump-command p rest short named =
    let feeds = count_by-le-length is_feed p.document in
    written_is_read p.id p.document rest named (omega (arith, short, feeds))

-- and those of pieces are theirs
pieces_dump-commands : (pieces : List PieceValue) → AreShort pieces → All IsNamed pieces → commands_of (lines_of (flat_map piece_dump pieces)) ≡ map submission_of pieces
pieces_dump-commands [] short named = refl
pieces_dump-commands (p ∷ pieces) short named =
    piece_dump-command p (flat_map piece_dump pieces) (AreShort-head p pieces short) (All-head IsNamed p pieces named)
    ∙ ap (λ cs. submission_of p ∷ cs) (pieces_dump-commands pieces (AreShort-tail p pieces short) (All-tail IsNamed p pieces named))

-- the comment before the pieces
abbrev comment : ℕ → List ℕ
comment count = codes "# dump of " ++ decimal count ++ codes " pieces"

IsLine-comment : (count : ℕ) → count < 2 ^ 64 → IsLine (comment count)
IsLine-comment count small =
    IsLine-words (codes "#") (codes "dump" ∷ codes "of" ∷ decimal count ∷ codes "pieces" ∷ []) (known_word (codes "#") refl)
    (known_word (codes "dump") refl, (known_word (codes "of") refl, (decimal_word count small, (known_word (codes "pieces") refl, tt))))

form_of-comment : (count : ℕ) → form_of (comment count) ≡ Nothing
unfolding form_of
form_of-comment count = refl

-- the commands of a dump are the submissions of its pieces
dump_text-commands : (pieces : List PieceValue) → AreStanding pieces → AreShort pieces → commands_of (lines_of (dump_text pieces)) ≡ map submission_of pieces
dump_text-commands pieces h short =
    let small : length pieces < 2 ^ 64 = omega (arith, h.few) in
    let rest = flat_map piece_dump pieces in
    ap (λ t. commands_of (lines_of t)) (append_assoc (comment (length pieces)) (LINE_FEED ∷ []) rest)
    ∙ ap commands_of (lines_of-next (comment (length pieces)) rest (IsLine-comment (length pieces) small))
    ∙ alone _ Nothing (comment (length pieces)) (lines_of rest) (form_of-comment (length pieces)) refl
    ∙ pieces_dump-commands pieces short h.named

-- the dump of pieces that stand leads to them
pub dump_leads_to : (pieces : List PieceValue) → AreStanding pieces → AreShort pieces → pieces_of (dump_text pieces) ≡ pieces
dump_leads_to pieces h short = ap (fold pieces_after []) (dump_text-commands pieces h short) ∙ brought_back [] pieces h short

-- the reply to the submission of a piece that is accepted
abbrev acceptance : PieceValue → Reply
acceptance p = Accepted p.id p.size

-- submissions of pieces that stand after others are accepted
accepted_again : (front back : List PieceValue) → AreStanding (front ++ back) → AreShort back → AreReplies front (map submission_of back) (map acceptance back)
accepted_again front [] h short = tt
accepted_again front (p ∷ back) h short =
    let made = submitted-from front p.id p.document p (made_again front p back h (AreShort-head p back short)) in (
      ap (submission_reply p.id) (sym made),
      subst (λ (r : Result PieceValue SubmitFault). AreReplies (with_piece front r) (map submission_of back) (map acceptance back)) (sym made)
          (accepted_again (front ++ p ∷ []) back (subst AreStanding (sym (append_assoc front (p ∷ []) back)) h) (AreShort-tail p back short)),
    )

-- and no acceptance is a refusal
none_refused : (pieces : List PieceValue) → false ≡ list_any is_refusal (map acceptance pieces)
none_refused [] = refl
none_refused (p ∷ pieces) = none_refused pieces

-- the texts of acceptances, piece by piece
texts_of : (pieces : List PieceValue) → flat_map acceptance_text pieces ≡ flat_map reply_text (map acceptance pieces)
texts_of [] = refl
texts_of (p ∷ pieces) = ap (λ t. acceptance_text p ++ t) (texts_of pieces)

-- submissions of pieces that stand are answered by their acceptances
pub submissions_are_accepted : (pieces : List PieceValue) → AreStanding pieces → AreShort pieces → AnswersCommands [] (map submission_of pieces) (flat_map acceptance_text pieces) false
submissions_are_accepted pieces h short =
    record { replies = map acceptance pieces; are = accepted_again [] pieces h short; texts = texts_of pieces; mark = none_refused pieces }

-- the dump of pieces that stand is accepted, piece by piece
pub dump_is_accepted : (pieces : List PieceValue) → AreStanding pieces → AreShort pieces → IsRun (dump_text pieces) (flat_map acceptance_text pieces) false
dump_is_accepted pieces h short =
    answers_all _ (lines_of (dump_text pieces)) (flat_map acceptance_text pieces) false
    (subst (λ (cs : List Command). AnswersCommands [] cs (flat_map acceptance_text pieces) false) (sym (dump_text-commands pieces h short)) (submissions_are_accepted pieces h short))

-- a submission leaves documents within the limit
with_piece-short : (pieces : List PieceValue) (id document : List ℕ) (made : Result PieceValue SubmitFault) → submitted pieces id document ≡ made → AreShort pieces → AreShort (with_piece pieces made)
with_piece-short pieces id document (Ok p) is h =
    let was = submitted-ok pieces id document p is in
    let short = piece_from-within (codes_of pieces) id document p was.made in
    All-push (λ (q : PieceValue). length q.document ≤ MAX_DOCUMENT) pieces p h
    (subst (λ (d : List ℕ). length d ≤ MAX_DOCUMENT) (sym (piece_from-names (codes_of pieces) id document (document_read_of document) p was.made).1) short)
with_piece-short pieces id document (Err reason) is h = h

left_by-short : (user : Option PieceValue) (pieces rest : List PieceValue) → AreShort pieces → AreShort rest → AreShort (left_by pieces (unless_used user rest))
left_by-short None pieces rest h k = k
left_by-short (Some user) pieces rest h k = h

withdrawn-cases : (b : Bool) (left : Result (List PieceValue) WithdrawFault) (reason : WithdrawFault) (pieces : List PieceValue) → AreShort pieces → AreShort (left_by pieces left)
    → AreShort (left_by pieces (cond b left (Err reason)))
withdrawn-cases true left reason pieces h k = k
withdrawn-cases false left reason pieces h k = h

withdrawn-short : (pieces : List PieceValue) (id : List ℕ) → AreShort pieces → AreShort (left_by pieces (withdrawn pieces id))
unfolding withdrawn
withdrawn-short pieces id h =
    withdrawn-cases (has_id id pieces) (unless_used (first_user id pieces) (without id pieces)) withdraw.NoSuch pieces h
    (left_by-short (first_user id pieces) pieces (without id pieces) h (All-filter (λ (q : PieceValue). not (bytes_eq q.id id)) (λ (q : PieceValue). length q.document ≤ MAX_DOCUMENT) pieces h))

withdrawn_all-short : (pieces : List PieceValue) (id : List ℕ) → AreShort pieces → AreShort (left_by pieces (withdrawn_all pieces id))
unfolding withdrawn_all
withdrawn_all-short pieces id h =
    withdrawn-cases (has_id id pieces) (Ok (without_all (taken_along pieces id) pieces)) withdraw.NoSuch pieces h
    (All-filter (λ (q : PieceValue). not (is_id_among (taken_along pieces id) q.id)) (λ (q : PieceValue). length q.document ≤ MAX_DOCUMENT) pieces h)

-- so does each command
pub pieces_after-short : (pieces : List PieceValue) (c : Command) → AreShort pieces → AreShort (pieces_after pieces c)
pieces_after-short pieces (command.Submission None document) h = h
pieces_after-short pieces (command.Submission (Some id) document) h = with_piece-short pieces id document (submitted pieces id document) refl h
pieces_after-short pieces (command.Withdraw id) h = withdrawn-short pieces id h
pieces_after-short pieces (command.WithdrawAll id) h = withdrawn_all-short pieces id h
pieces_after-short pieces command.CutOff h = h
pieces_after-short pieces (command.Show numbers) h = h
pieces_after-short pieces (command.Table numbers) h = h
pieces_after-short pieces (command.Explain side numbers) h = h
pieces_after-short pieces (command.List numbers) h = h
pieces_after-short pieces command.Ledger h = h
pieces_after-short pieces command.Dump h = h
pieces_after-short pieces command.Unknown h = h

fold-short : (pieces : List PieceValue) (cs : List Command) → AreShort pieces → AreShort (fold pieces_after pieces cs)
fold-short pieces [] h = h
fold-short pieces (c ∷ cs) h = fold-short (pieces_after pieces c) cs (pieces_after-short pieces c h)

-- the documents of the pieces that an input leads to are within the limit
pub pieces_of-short : (input : List ℕ) → AreShort (pieces_of input)
pieces_of-short input = fold-short [] (commands_of (lines_of input)) (All-nil (λ (q : PieceValue). length q.document ≤ MAX_DOCUMENT))
