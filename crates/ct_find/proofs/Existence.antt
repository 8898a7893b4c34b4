-- Each input has an output: documents of duals that are found, proposals, and replies.
use Rattle.ct_finder.specs.Inside.Rows.{multipliers_of}
use Rattle.ct_find.specs.Inside.Replies.{IsReplyToEntry, IsReplyToNumbers, IsReplyToWords}
use Rattle.ct_find.specs.Inside.Texts.{dual_evidence}
use Rattle.std.proofs.Common.{◌≡◌, ℕ, suc, ◌≤◌, ◌^◌, Bool, true, false, List, [], ◌∷◌, ◌++◌, codes, length, replicate, All, Option, Some, None, Ok, IfSome, refl, ap, ◌∙◌, arith}
use Rattle.std.specs.Prelude.{ℤ, pos, negsuc, ◌≤ℤ◌, ◌<ℤ◌, ◌||◌, FitsSigned}
use Rattle.std.specs.Int.{w64}
use Rattle.std.proofs.lemmas.Int.{fits_signed_from_abs, ints}
use Rattle.std.proofs.lemmas.Str.{is_utf8-from_IsUtf8}
use Rattle.toml.specs.Data.{table, Members}
use Rattle.toml_writer.specs.Text.{key_text, string_text, encoding_of, escaped, needs_escape, quotes_after}
use Rattle.ct_words.specs.declared.limits.TheConstants.{MAX_N}
use Rattle.ct_words.specs.declared.entry.Entry.{Entry}
use Rattle.ct_words.specs.Entry.{IsEntry, unrestricted, constant_weight}
use Rattle.ct_words.proofs.EntryLemmas.{entry_limits}
use Rattle.ct_duals.specs.declared.dual.Dual.{Dual}
use Rattle.ct_duals.specs.Dual.{IsDual}
use Rattle.ct_fields.specs.Document.{table_of}
use Rattle.ct_kind.specs.declared.evidence.Evidence.{Evidence}
use Rattle.ct_kind.specs.declared.evidence.Evidence.TheVariants as evidence
use Rattle.ct_files.specs.Document.{without_cites, document_read_of}
use Rattle.ct_files.specs.Evidence.{IsSound}
use Rattle.ct_files.specs.Inside.Written.{evidence_table, HasIds}
use Rattle.ct_files.proofs.Documents.{document_read_of-short}
use Rattle.ct_files.proofs.Evidences.{read_of-within}
use Rattle.ct_files.proofs.Lengths.{written-read}
use Rattle.ct_files.proofs.WrittenDocuments.{nothing_cited, document-written}
use Rattle.ct_fields.specs.Inside.Room.{IsSimpleTable, table_room}
use Rattle.ct_fields.proofs.TextLengths.{document_length}
use Rattle.ct_duals.specs.Dual.{degree_of}
use Rattle.ct_words.specs.Numbers.{numbers_of}
use Rattle.ct_finder.specs.Run.{End, run_dual, ones_dual}
use Rattle.ct_finder.specs.Run.End.{Least as LeastEnd, Turns as TurnsEnd, Wide as WideEnd}
use Rattle.ct_finder.proofs.RunDuals.{dual-form, least-of, narrow-of}
use Rattle.ct_finder.proofs.Ones.{ones-form}
use Rattle.ct_finder.specs.Column.{Tableau, columns, range_of}
use Rattle.ct_finder.specs.Found.{bound_without_allowances, dual_at_end, IsShown}
use Rattle.ct_finder.proofs.FoundLemmas.{plain_dual, asked-weighted}
use Rattle.ct_find.proofs.FoundDuals.{plain_shown, weighted_shown}
use Rattle.ct_io.specs.Lines.{lines_of}
use Rattle.ct_text.specs.declared.document_lines.TheConstants.{LINE_FEED}
use Rattle.ct_text.specs.Line.{words_of}
use Rattle.ct_text.specs.EntryNumbers.{entry_numbers_of, named_entry}
use Rattle.ct_text.specs.declared.entry_numbers.EntryNumbers.{EntryNumbers}
use Rattle.ct_find.specs.declared.found.TheConstants.{MAX_PIVOTS}
use Rattle.ct_find.specs.Proposal.{is_even, run_for, found_dual, stop_for, comments, find_id, IsProposal, AnswersEntry}
use Rattle.ct_commands.specs.Submission.{submission_text}
use Rattle.ct_find.specs.Reply.{AreFoundReplies, IsFound}
use Rattle.ct_find.proofs.EntryLemmas.{named-is_entry}
use Rattle.ct_find.proofs.FoundLemmas.{plain-asked}
use Rattle.ct_find.proofs.PlainTables.{numbers, number, mark, word, ArePlain, small, plain_text}

-- whole numbers that are not negative and below 2^63 fit
fits : (z : ℤ) → pos 0 ≤ℤ z → z <ℤ pos (2 ^ 63) → FitsSigned w64 z
fits (pos n) positive below = fits_signed_from_abs w64 (pos n) (omega (arith, ints))
fits (negsuc n) positive below = absurd (omega (arith, ints))

all_fit : (c : List ℤ) → All (λ z. pos 0 ≤ℤ z) c → All (λ z. z <ℤ pos (2 ^ 63)) c → All (FitsSigned w64) c
all_fit c positive below k d within = fits _ (positive k d within) (below k d within)

-- the dual with these multipliers that allows nothing
abbrev with_multipliers : Entry → Bool → List ℤ → Dual
with_multipliers e even c = record { entry = e; even = even; c = c; y = [] }

number_fits : (n : ℕ) → n ≤ MAX_N → FitsSigned w64 (pos n)
number_fits n h = fits_signed_from_abs w64 (pos n) (omega arith)

dual_plain : (n d : ℕ) (even : Bool) (c : List ℤ) → n ≤ MAX_N → d ≤ MAX_N → All (FitsSigned w64) c → ArePlain (evidence_table (evidence.Dual (with_multipliers (unrestricted n d) even c)))
unfolding key_text string_text encoding_of escaped needs_escape quotes_after
dual_plain n d even c n_small d_small c_fits = (
  small (codes "c") refl,
  refl,
  numbers c c_fits,
  (
    small (codes "d") refl,
    refl,
    number (pos d) (number_fits d d_small),
    (
      small (codes "even") refl,
      refl,
      mark even,
      (
        small (codes "kind") refl,
        refl,
        word (codes "dual") (small (codes "\"dual\"") refl),
        (
          small (codes "n") refl,
          refl,
          number (pos n) (number_fits n n_small),
          (
            small (codes "y") refl,
            refl,
            numbers [] (λ k x within. absurd (omega arith)),
            tt,
          ),
        ),
      ),
    ),
  ),
)

johnson_dual_plain : (n d w : ℕ) (c : List ℤ) → n ≤ MAX_N → d ≤ MAX_N → w ≤ MAX_N → All (FitsSigned w64) c → ArePlain (evidence_table (evidence.JohnsonDual (with_multipliers (constant_weight n d w) false c)))
unfolding key_text string_text encoding_of escaped needs_escape quotes_after
johnson_dual_plain n d w c n_small d_small w_small c_fits = (
  small (codes "c") refl,
  refl,
  numbers c c_fits,
  (
    small (codes "d") refl,
    refl,
    number (pos d) (number_fits d d_small),
    (
      small (codes "kind") refl,
      refl,
      word (codes "jdual") (small (codes "\"jdual\"") refl),
      (
        small (codes "n") refl,
        refl,
        number (pos n) (number_fits n n_small),
        (
          small (codes "w") refl,
          refl,
          number (pos w) (number_fits w w_small),
          tt,
        ),
      ),
    ),
  ),
)

-- a table that is plain is that of some bytes, which are no more than there is room for
record Bytes (ms : Members) : Type 0 where
  bytes : List ℕ
  written : table_of bytes ≡ Some (table ms)
  room : IsSimpleTable ms → length bytes ≤ table_room ms

bytes_of : (ms : Members) → ArePlain ms → Bytes ms
unfolding table_of
bytes_of ms plain =
    let (bytes, utf8, parsed, text) = plain_text ms plain in
    record {
      bytes = bytes;
      written = rw (is_utf8-from_IsUtf8 bytes utf8, parsed) refl;
      room = λ simple. document_length ms bytes simple text;
    }

-- the bytes of the table of evidence read as it, without cites
written-document : (e : Evidence) (ms : Members) (bytes : List ℕ) → IsSound e → HasIds e → ms ≡ evidence_table e → table_of bytes ≡ Some (table ms)
    → (IsSimpleTable ms → length bytes ≤ table_room ms) → document_read_of bytes ≡ Ok (without_cites e)
written-document e ms bytes sound ids is written room =
    document_read_of-short bytes (read_of-within bytes e (written-read e ms bytes sound ids is written room))
    ∙ document-written e [] bytes sound ids nothing_cited (written ∙ ap (λ (t : Members). Some (table t)) is)

-- each dual that allows nothing has a document
plain_document : (n d : ℕ) (even : Bool) (c : List ℤ) → IsDual (with_multipliers (unrestricted n d) even c)
    → (document : List ℕ) × (document_read_of document ≡ Ok (without_cites (evidence.Dual (with_multipliers (unrestricted n d) even c))))
plain_document n d even c form =
    let limits = entry_limits (unrestricted n d) form.entry in
    let own = with_multipliers (unrestricted n d) even c in
    let b = bytes_of (evidence_table (evidence.Dual own))
    (dual_plain n d even c limits.length_to limits.distance_to (all_fit c form.multipliers form.signed.0)) in
    (b.bytes, written-document (evidence.Dual own) (evidence_table (evidence.Dual own)) b.bytes (form, refl) tt refl b.written b.room)

weighted_document : (n d w : ℕ) (c : List ℤ) → IsDual (with_multipliers (constant_weight n d w) false c)
    → (document : List ℕ) × (document_read_of document ≡ Ok (without_cites (evidence.JohnsonDual (with_multipliers (constant_weight n d w) false c))))
weighted_document n d w c form =
    let limits = entry_limits (constant_weight n d w) form.entry in
    let weight = limits.weight in
    let length_to = limits.length_to in
    let own = with_multipliers (constant_weight n d w) false c in
    let b = bytes_of (evidence_table (evidence.JohnsonDual own))
    (johnson_dual_plain n d w c limits.length_to limits.distance_to (omega (arith, weight.2)) (all_fit c form.multipliers form.signed.0)) in
    (b.bytes, written-document (evidence.JohnsonDual own) (evidence_table (evidence.JohnsonDual own)) b.bytes (form, refl, refl) tt refl b.written b.room)

-- each dual with a document that is shown has an answer
answer_of : (e : Entry) (d : Dual) → IsShown (stop_for e) d → (document : List ℕ) × (document_read_of document ≡ Ok (without_cites (dual_evidence d.entry.w d)))
    → (text : List ℕ) × (IsProposal e d (bound_without_allowances d) (stop_for e) text × IsShown (stop_for e) d)
answer_of e d shown (document, reads) = (comments (bound_without_allowances d) (stop_for e) ++ submission_text (find_id e) document, ((document, reads, refl), shown))

plain_answer : (n d : ℕ) → IsEntry (unrestricted n d) → (end : End) → run_for (unrestricted n d) ≡ end
    → IsShown (stop_for (unrestricted n d)) (plain_dual (unrestricted n d) (is_even None d) end)
    → (text : List ℕ) × AnswersEntry (unrestricted n d) (dual_at_end (unrestricted n d) (is_even None d) end) text
unfolding run_for
plain_answer n d entry (LeastEnd t) is shown =
    let e = unrestricted n d in
    let even = is_even None d in
    let form = dual-form (numbers_of e) e even t (plain-asked n d entry) (least-of (numbers_of e) e even MAX_PIVOTS t is)
    (narrow-of (numbers_of e) e even MAX_PIVOTS t is) in
    answer_of e (run_dual e even t.cost) shown (plain_document n d even (multipliers_of (columns (range_of e even) (degree_of e)) (degree_of e) t.cost) form)
plain_answer n d entry TurnsEnd is shown =
    let even = is_even None d in
    answer_of (unrestricted n d) (ones_dual (unrestricted n d) even) shown (plain_document n d even (replicate (suc n) (pos 1)) (ones-form n d even (plain-asked n d entry)))
plain_answer n d entry (WideEnd x) is shown =
    let even = is_even None d in
    answer_of (unrestricted n d) (ones_dual (unrestricted n d) even) shown (plain_document n d even (replicate (suc n) (pos 1)) (ones-form n d even (plain-asked n d entry)))

weighted_answer : (n d w : ℕ) → IsEntry (constant_weight n d w) → (end : End) → run_for (constant_weight n d w) ≡ end
    → ((t : Tableau) → end ≡ LeastEnd t → IsShown (stop_for (constant_weight n d w)) (run_dual (constant_weight n d w) false t.cost))
    → (text : List ℕ) × AnswersEntry (constant_weight n d w) (dual_at_end (constant_weight n d w) false end) text
unfolding run_for
weighted_answer n d w entry (LeastEnd t) is shown =
    let e = constant_weight n d w in
    let form = dual-form (numbers_of e) e false t (asked-weighted n d w entry) (least-of (numbers_of e) e false MAX_PIVOTS t is)
    (narrow-of (numbers_of e) e false MAX_PIVOTS t is) in
    answer_of e (run_dual e false t.cost) (shown t refl) (weighted_document n d w (multipliers_of (columns (range_of e false) (degree_of e)) (degree_of e) t.cost) form)
weighted_answer n d w entry TurnsEnd is shown = (codes "none" ++ LINE_FEED ∷ [], refl)
weighted_answer n d w entry (WideEnd x) is shown = (codes "none" ++ LINE_FEED ∷ [], refl)

answer_exists : (n d : ℕ) (w : Option ℕ) → IsEntry (record { n = n; d = d; w = w }) → (text : List ℕ) × AnswersEntry (record { n = n; d = d; w = w }) (found_dual (record { n = n; d = d; w = w })) text
answer_exists n d None entry = plain_answer n d entry (run_for (unrestricted n d)) refl (plain_shown n d entry)
answer_exists n d (Some w) entry = weighted_answer n d w entry (run_for (constant_weight n d w)) refl (weighted_shown n d w entry)

entry_reply_exists : (o : Option Entry) → IfSome o IsEntry → (text : List ℕ) × (refused : Bool) × IsReplyToEntry o text refused
entry_reply_exists None entry = (codes "refused entry" ++ LINE_FEED ∷ [], true, (refl, refl))
entry_reply_exists (Some e) entry = let (text, answers) = answer_exists e.n e.d e.w entry in (text, false, (answers, refl))

numbers_reply_exists : (o : Option EntryNumbers) → (text : List ℕ) × (refused : Bool) × IsReplyToNumbers o text refused
numbers_reply_exists None = (codes "refused command" ++ LINE_FEED ∷ [], true, (refl, refl))
numbers_reply_exists (Some m) = entry_reply_exists (named_entry m) (named-is_entry m)

words_reply_exists : (words : List (List ℕ)) → (text : List ℕ) × (refused : Bool) × IsReplyToWords words text refused
words_reply_exists [] = ([], false, (refl, refl))
words_reply_exists (w ∷ words) = numbers_reply_exists (entry_numbers_of (w ∷ words))

replies_exist : (lines : List (List ℕ)) → (text : List ℕ) × (refused : Bool) × AreFoundReplies lines text refused
replies_exist [] = ([], false, (refl, refl))
replies_exist (line ∷ lines) =
    let (reply, here, is) = words_reply_exists (words_of line) in
    let (rest, later, are) = replies_exist lines in
    (reply ++ rest, here || later, (reply, rest, here, later, is, are, refl, refl))

-- each input has an output
pub found_exists : (input : List ℕ) → (output : List ℕ) × (refused : Bool) × IsFound input output refused
found_exists input = replies_exist (lines_of input)
