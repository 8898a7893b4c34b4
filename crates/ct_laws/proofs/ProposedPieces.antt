-- What `find` writes for entries leads to pieces of them.
use Rattle.ct_find.specs.Inside.Texts.{dual_evidence, pair_text, pairs_text}
use Rattle.std.proofs.Common.{◌≡◌, ◌≢◌, ◌∙◌, ℕ, ◌%◌, ◌/◌, ◌^◌, ◌<◌, ◌≤◌, ◌==◌, Bool, true, false, ◌&&◌, ◌||◌, not, nat_le, List, [], ◌∷◌, ◌++◌, map, length, get_or, codes, Option, Some, None, refl, sym, ap, subst, arith, lit<, append_assoc, append-nil, eq-eqb, leb-true}
use Rattle.std.specs.Prelude.{All, AllPairs, IsTrue, fold, ℤ, pos, negsuc, ◌≤ℤ◌, ◌<ℤ◌, unsigned_abs}
use Rattle.std.specs.List.{flat_map, list_all, AllByRecursion}
use Rattle.std.proofs.lemmas.Int.{ints}
use Rattle.std.proofs.lemmas.Bool.{and_parts}
use Rattle.std.specs.Fmt.{decimal}
use Rattle.std.proofs.Math.Nat.{min-le_left}
use Rattle.std.proofs.lemmas.List.{get_or-map, length-map}
use Rattle.std.proofs.lemmas.List.Elements.{All-append, All-cons, All-nil, All-head, All-tail, All-get_or, All-weaker, All-from_recursion, recursion_from_All}
use Rattle.std.proofs.lemmas.List.Sums.{sum_by-cons}
use Rattle.ct_words.specs.declared.limits.TheConstants.{MAX_BOUND}
use Rattle.ct_text.specs.declared.document_lines.TheConstants.{LINE_FEED}
use Rattle.ct_io.specs.Lines.{lines_of, IsLine}
use Rattle.ct_io.proofs.LinesLemmas.{lines_of-next}
use Rattle.ct_words.specs.declared.entry.Entry.{Entry}
use Rattle.ct_words.specs.Entry.{IsEntry}
use Rattle.ct_names.specs.Id.{is_id}
use Rattle.ct_duals.specs.declared.dual.Dual.{Dual}
use Rattle.ct_fields.specs.declared.document.TheConstants.{MAX_DOCUMENT}
use Rattle.ct_duals.specs.Bound.{natural}
use Rattle.ct_words.specs.Numbers.{numbers_of, multiplier, combination}
use Rattle.ct_words.proofs.EntryLemmas.{entry_limits}
use Rattle.ct_duals.specs.Dual.{as_index, degree_of, greatest_index, is_in_range}
use Rattle.ct_primal.specs.Primal.{PrimalValue}
use Rattle.ct_primal.proofs.PrimalFaults.{sound-from_none}
use Rattle.ct_finder.specs.Column.{range_of}
use Rattle.ct_finder.specs.RunPrimal.{wide_number, run_primal}
use Rattle.ct_finder.specs.Run.{End}
use Rattle.ct_finder.specs.Run.End.{Least, Turns, Wide}
use Rattle.ct_finder.specs.Found.{bound_without_allowances, stop_of, IsShown}
use Rattle.ct_finder.specs.declared.found.Stop.{Stop}
use Rattle.ct_finder.specs.declared.found.Stop.TheVariants as stop
use Rattle.ct_find.specs.declared.found.TheConstants.{MAX_PIVOTS}
use Rattle.ct_files.specs.Document.{without_cites}
use Rattle.ct_files.proofs.Documents.{document_read_of-within}
use Rattle.ct_find.specs.Proposal.{is_even, find_id, found_dual, primal_line, run_for, stop_for, stop_text}
use Rattle.ct_laws.proofs.AcceptedProposals.{made-proposed, stored-none}
use Rattle.ct_laws.proofs.FindIds.{find_id-named, find_id-different}
use Rattle.ct_find.proofs.FoundDuals.{bound-is, shown}
use Rattle.ct_commands.specs.Form.{form_of}
use Rattle.ct_commands.specs.Command.{commands_of}
use Rattle.ct_commands.specs.declared.form.Form.TheVariants.{Nothing}
use Rattle.ct_commands.specs.declared.command.Command.{Command}
use Rattle.ct_commands.proofs.SpacedWords.{AreWords, spaced_words, known_word, decimal_word, IsLine-words}
use Rattle.ct_commands.proofs.Submissions.{alone}
use Rattle.ct_kind.specs.Named.{NamedCode}
use Rattle.ct_piece.specs.Codes.{named_code}
use Rattle.ct_piece.specs.Dump.{piece_dump}
use Rattle.ct_piece.specs.Piece.{PieceValue, stored_by, stored_words}
use Rattle.ct_piece.specs.Standing.{AreMade, AreStanding}
use Rattle.ct_piece.specs.declared.limits.TheConstants.{MAX_PIECES}
use Rattle.ct_session.specs.Reply.{pieces_after}
use Rattle.ct_session.proofs.Asked.{answers_all}
use Rattle.ct_session.specs.Run.{AnswersCommands, IsRun, pieces_of}
use Rattle.ct_replies.specs.Text.{reply_text}
use Rattle.ct_laws.specs.Acceptance.{acceptance_text}
use Rattle.ct_laws.specs.Proposed.{IsProposed, AreProposed, taken_text, proposed_piece}
use Rattle.ct_laws.proofs.DumpPieces.{AreShort, submission_of, piece_dump-command, brought_back, submissions_are_accepted}

-- the piece that is proposed for an entry, and those for entries
abbrev pub piece : (e : Entry) (text : List ℕ) → IsProposed e text → PieceValue
piece e text h = proposed_piece e h.dual h.proposal.0

abbrev pub pieces : (es : List Entry) (text : List ℕ) → AreProposed es text → List PieceValue
pieces [] text h = []
pieces (e ∷ es) text (own, rest, here, are, is) = piece e own here ∷ pieces es rest are

entries : (es : List Entry) (text : List ℕ) (h : AreProposed es text) → map (λ p. p.entry) (pieces es text h) ≡ es
entries [] text h = refl
entries (e ∷ es) text (own, rest, here, are, is) = ap (λ fs. e ∷ fs) (entries es rest are)

-- its document is within the limit, since it is read
within : (e : Entry) (text : List ℕ) (h : IsProposed e text) → length h.proposal.0 ≤ MAX_DOCUMENT
within e text h = document_read_of-within h.proposal.0 (without_cites (dual_evidence h.dual.entry.w h.dual)) h.proposal.1

short : (es : List Entry) (text : List ℕ) (h : AreProposed es text) → AreShort (pieces es text h)
short [] text h = All-nil (λ (p : PieceValue). length p.document ≤ MAX_DOCUMENT)
short (e ∷ es) text (own, rest, here, are, is) = All-cons (λ (p : PieceValue). length p.document ≤ MAX_DOCUMENT) (piece e own here) (pieces es rest are) (within e own here) (short es rest are)

abbrev IsNamed : PieceValue → Type 0
IsNamed p = IsTrue (is_id p.id)

abbrev HasItsId : PieceValue → Type 0
HasItsId p = p.id ≡ find_id p.entry

ids : (es : List Entry) (text : List ℕ) (h : AreProposed es text) → All HasItsId (pieces es text h)
ids [] text h = All-nil HasItsId
ids (e ∷ es) text (own, rest, here, are, is) = All-cons HasItsId (piece e own here) (pieces es rest are) refl (ids es rest are)

named : (es : List Entry) (text : List ℕ) (h : AreProposed es text) → All IsEntry es → All IsNamed (pieces es text h)
named [] text h all = All-nil IsNamed
named (e ∷ es) text (own, rest, here, are, is) all =
    All-cons IsNamed (piece e own here) (pieces es rest are) (find_id-named e (All-head IsEntry e es all)) (named es rest are (All-tail IsEntry e es all))

made : (known : List NamedCode) (es : List Entry) (text : List ℕ) (h : AreProposed es text) → All IsEntry es → AreMade known (pieces es text h)
made known [] text h all = tt
made known (e ∷ es) text (own, rest, here, are, is) all =
    let p = piece e own here in (
      made-proposed known e here.dual here.proposal.0 (All-head IsEntry e es all) here.found here.proposal.1,
      made (known ++ named_code known p ∷ []) es rest are (All-tail IsEntry e es all),
    )

stored : (es : List Entry) (text : List ℕ) (h : AreProposed es text) → stored_words (pieces es text h) ≡ 0
stored [] text h = refl
stored (e ∷ es) text (own, rest, here, are, is) =
    let first = sum_by-cons stored_by (piece e own here) (pieces es rest are) in
    let none = stored-none e here.dual here.proposal.0 in
    let others = stored es rest are in
    omega arith

-- pieces of different entries have different ids
different : (ps : List PieceValue) (es : List Entry) → map (λ p. p.entry) ps ≡ es → All HasItsId ps → All IsEntry es → AllPairs (λ e f. e ≢ f) es
    → AllPairs (λ (p q : PieceValue). p.id ≢ q.id) ps
different ps es are own all apart = λ i j d below within same.
    let count = sym (length-map ps (λ p. p.entry)) ∙ ap length are in
    let last : j < length es = omega arith in
    let first : i < length es = omega arith in
    let at : (k : ℕ) → k < length ps → (get_or ps k d).entry ≡ get_or es k d.entry =
    λ k l. sym (get_or-map (λ (p : PieceValue). p.entry) ps k d d.entry l) ∙ ap (λ fs. get_or fs k d.entry) are in
    let here = at i (omega arith) in
    let there = at j within in
    let one = subst IsEntry (sym here) (All-get_or IsEntry es i d.entry first all) in
    let other = subst IsEntry (sym there) (All-get_or IsEntry es j d.entry last all) in
    let texts = sym (All-get_or HasItsId ps i d (omega arith) own) ∙ same ∙ All-get_or HasItsId ps j d within own in
    apart i j d.entry below last (sym here ∙ find_id-different (get_or ps i d).entry (get_or ps j d).entry one other texts ∙ there)

-- the pieces stand
pub standing : (es : List Entry) (text : List ℕ) (h : AreProposed es text) → All IsEntry es → AllPairs (λ e f. e ≢ f) es → length es ≤ MAX_PIECES → AreStanding (pieces es text h)
standing es text h all apart few =
    let ps = pieces es text h in
    let count = sym (length-map ps (λ p. p.entry)) ∙ ap length (entries es text h) in
    let none = stored es text h in
    record {
      made = made [] es text h all;
      named = named es text h all;
      different = different ps es (entries es text h) (ids es text h) all apart;
      few = omega arith;
      small = omega arith;
    }

-- the comment before a proposal
abbrev comment : ℕ → List ℕ → List ℕ
comment bound how = codes "# bound " ++ decimal bound ++ codes " " ++ how

form_of-comment : (bound : ℕ) (how : List ℕ) → form_of (comment bound how) ≡ Nothing
unfolding form_of
form_of-comment bound how = refl

-- the words of how a run stopped
abbrev stop_words : Stop → List (List ℕ)
stop_words (stop.Least p) = codes "least" ∷ []
stop_words (stop.Turns turns) = codes "turns" ∷ decimal turns ∷ []
stop_words (stop.Wide x) = codes "wide" ∷ []

stop_text-words : (s : Stop) → spaced_words (stop_words s) ≡ codes " " ++ stop_text s
stop_text-words (stop.Least p) = refl
stop_text-words (stop.Turns turns) = ap (λ (t : List ℕ). codes " turns " ++ t) (append-nil (decimal turns))
stop_text-words (stop.Wide x) = refl

least_words : (o : Option ℤ) (p : PrimalValue) → AreWords (stop_words (elim o [ None ↦ stop.Least p | Some x ↦ stop.Wide x ]))
least_words None p = (known_word (codes "least") refl, tt)
least_words (Some x) p = (known_word (codes "wide") refl, tt)

stop_words-are : (e : Entry) (even : Bool) (end : End) → AreWords (stop_words (stop_of e even MAX_PIVOTS end))
stop_words-are e even (Least t) = least_words (wide_number (length (range_of e even)) t) (run_primal e even (range_of e even) t)
stop_words-are e even Turns = (known_word (codes "turns") refl, (decimal_word MAX_PIVOTS (lit< tt), tt))
stop_words-are e even (Wide x) = (known_word (codes "wide") refl, tt)

IsLine-comment : (e : Entry) (bound : ℕ) → bound < 2 ^ 64 → IsLine (comment bound (stop_text (stop_for e)))
IsLine-comment e bound small =
    let stopped = stop_for e in
    let words = codes "bound" ∷ decimal bound ∷ stop_words stopped in
    let spelled : codes "#" ++ spaced_words words ≡ comment bound (stop_text stopped) =
    ap (λ (t : List ℕ). codes "# bound " ++ (decimal bound ++ t)) (stop_text-words stopped)
    ∙ ap (λ (t : List ℕ). codes "# bound " ++ t) (sym (append_assoc (decimal bound) (codes " ") (stop_text stopped))) in
    subst IsLine spelled
    (IsLine-words (codes "#") words (known_word (codes "#") refl)
    (known_word (codes "bound") refl, (decimal_word bound small, stop_words-are e (is_even e.w e.d) (run_for e))))

-- an index of a range is small
index_small : (e : Entry) (even : Bool) → IsEntry e → (i : ℕ) → is_in_range e even i ≡ true → i < 2 ^ 64
index_small e even entry i range =
    let parts = and_parts (nat_le (as_index e.w e.d) i && nat_le i (degree_of e)) (not even || i % 2 == 0) range in
    let ends = and_parts (nat_le (as_index e.w e.d) i) (nat_le i (degree_of e)) parts.0 in
    let last = leb-true i (degree_of e) ends.1 in
    let most = greatest_index-le e.n e.w in
    let short = (entry_limits e entry).length_to in
    omega (arith, last, most, short)
  where
    greatest_index-le : (n : ℕ) (w : Option ℕ) → greatest_index n w ≤ n
    greatest_index-le n None = omega arith
    greatest_index-le n (Some w) = omega arith

-- the comment with a primal, without its line feed
abbrev primal_comment : PrimalValue → List ℕ
primal_comment p = codes "# primal " ++ decimal (unsigned_abs p.q) ++ pairs_text p.a

form_of-primal : (p : PrimalValue) → form_of (primal_comment p) ≡ Nothing
unfolding form_of
form_of-primal p = refl

-- a byte of a line
abbrev IsInLine : ℕ → Type 0
IsInLine b = b ≢ LINE_FEED

decimal_line : (n : ℕ) → n < 2 ^ 64 → All IsInLine (decimal n)
decimal_line n small = All-weaker (λ b. 32 < b) IsInLine (λ b h e. absurd (omega (arith, h, e))) (decimal n) (decimal_word n small).0

below_64 : (z : ℤ) → pos 0 ≤ℤ z → z <ℤ pos (2 ^ 63) → unsigned_abs z < 2 ^ 64
below_64 (pos n) some less = omega (arith, ints)
below_64 (negsuc n) some less = absurd (omega (arith, ints))

visible : (bs : List ℕ) → list_all (λ b. not (b == LINE_FEED)) bs ≡ true → All IsInLine bs
visible bs h = All-from_recursion IsInLine bs (by_test bs h)
  where
    by_test : (bs : List ℕ) → list_all (λ b. not (b == LINE_FEED)) bs ≡ true → AllByRecursion IsInLine bs
    by_test [] h = tt
    by_test (b ∷ bs) h =
        let both = and_parts (not (b == LINE_FEED)) (list_all (λ b. not (b == LINE_FEED)) bs) h in
        ((λ e. absurd (let same = eq-eqb b LINE_FEED e in let test = sym (ap not same) ∙ both.0 in cc)), by_test bs both.1)

pairs_line : (us : List (ℕ × ℤ)) → AllByRecursion (λ (u : ℕ × ℤ). (u.0 < 2 ^ 64) × (unsigned_abs u.1 < 2 ^ 64)) us → All IsInLine (pairs_text us)
pairs_line [] h = All-nil IsInLine
pairs_line (u ∷ us) h =
    All-append IsInLine (pair_text u) (pairs_text us)
    (All-append IsInLine (codes " " ++ decimal u.0 ++ codes ":") (decimal (unsigned_abs u.1))
    (All-append IsInLine (codes " " ++ decimal u.0) (codes ":") (All-append IsInLine (codes " ") (decimal u.0) (visible (codes " ") refl) (decimal_line u.0 h.0.0)) (visible (codes ":") refl))
    (decimal_line (unsigned_abs u.1) h.0.1))
    (pairs_line us h.1)

-- it is a comment, so no command
primal-comment : (s : Stop) (d : Dual) (after : List ℕ) → IsShown s d → commands_of (lines_of (primal_line s ++ after)) ≡ commands_of (lines_of after)
primal-comment (stop.Turns turns) d after shown = refl
primal-comment (stop.Wide x) d after shown = refl
primal-comment (stop.Least p) d after shown =
    let body = primal_comment p in
    let accepted = sound-from_none (numbers_of p.entry) p shown.accepted in
    let scale = below_64 p.q (let one = accepted.scale in omega (arith, ints)) shown.scale in
    let small : All (λ (u : ℕ × ℤ). (u.0 < 2 ^ 64) × (unsigned_abs u.1 < 2 ^ 64)) p.a = λ k o l.
    let range = shown.form.numbers k o l in
    (index_small p.entry p.even shown.form.entry _ range.0, below_64 _ range.1 (shown.numbers k o l)) in
    let line = All-append IsInLine (codes "# primal " ++ decimal (unsigned_abs p.q)) (pairs_text p.a)
    (All-append IsInLine (codes "# primal ") (decimal (unsigned_abs p.q)) (visible (codes "# primal ") refl) (decimal_line (unsigned_abs p.q) scale))
    (pairs_line p.a (recursion_from_All (λ (u : ℕ × ℤ). (u.0 < 2 ^ 64) × (unsigned_abs u.1 < 2 ^ 64)) p.a small)) in
    ap (λ t. commands_of (lines_of t)) (append_assoc body (LINE_FEED ∷ []) after)
    ∙ ap commands_of (lines_of-next body after line)
    ∙ alone _ Nothing body (lines_of after) (form_of-primal p) refl

bound_small : (e : Entry) (d : Dual) → IsEntry e → found_dual e ≡ Some d → bound_without_allowances d < 2 ^ 64
bound_small e d entry same =
    let is = bound-is e d entry same in
    let small = min-le_left MAX_BOUND (natural (combination (numbers_of e) d.c 0) / natural (multiplier d.c 0)) in
    omega (arith, is, small)

-- a proposal is one command
proposal-command : (e : Entry) (own rest : List ℕ) (h : IsProposed e own) → IsEntry e
    → commands_of (lines_of (own ++ rest)) ≡ submission_of (piece e own h) ∷ commands_of (lines_of rest)
proposal-command e own rest h entry =
    let p = piece e own h in
    let stopped = stop_text (stop_for e) in
    let line = comment (bound_without_allowances h.dual) stopped in
    let primal = primal_line (stop_for e) in
    let after = piece_dump p ++ rest in
    ap (λ t. commands_of (lines_of (t ++ rest))) h.proposal.2
    ∙ ap (λ t. commands_of (lines_of t))
    (append_assoc ((line ++ LINE_FEED ∷ []) ++ primal) (piece_dump p) rest ∙ append_assoc (line ++ LINE_FEED ∷ []) primal after
    ∙ append_assoc line (LINE_FEED ∷ []) (primal ++ after))
    ∙ ap commands_of (lines_of-next line (primal ++ after) (IsLine-comment e (bound_without_allowances h.dual) (bound_small e h.dual entry h.found)))
    ∙ alone _ Nothing line (lines_of (primal ++ after)) (form_of-comment (bound_without_allowances h.dual) stopped) refl
    ∙ primal-comment (stop_for e) h.dual after (shown e h.dual entry h.found)
    ∙ piece_dump-command p rest (within e own h) (find_id-named e entry)

commands : (es : List Entry) (text : List ℕ) (h : AreProposed es text) → All IsEntry es → commands_of (lines_of text) ≡ map submission_of (pieces es text h)
commands [] text is all = ap (λ t. commands_of (lines_of t)) is
commands (e ∷ es) text (own, rest, here, are, is) all =
    ap (λ t. commands_of (lines_of t)) is ∙ proposal-command e own rest here (All-head IsEntry e es all)
    ∙ ap (λ cs. submission_of (piece e own here) ∷ cs) (commands es rest are (All-tail IsEntry e es all))

-- the texts of the replies
acceptance-is : (e : Entry) (d : Dual) (document : List ℕ) → acceptance_text (proposed_piece e d document) ≡ taken_text e
unfolding reply_text
acceptance-is e d document = ap (λ t. t ++ LINE_FEED ∷ []) (append-nil (codes "accepted " ++ find_id e))

texts : (es : List Entry) (text : List ℕ) (h : AreProposed es text) → flat_map acceptance_text (pieces es text h) ≡ flat_map taken_text es
texts [] text h = refl
texts (e ∷ es) text (own, rest, here, are, is) =
    ap (λ t. t ++ flat_map acceptance_text (pieces es rest are)) (acceptance-is e here.dual here.proposal.0)
    ∙ ap (λ t. taken_text e ++ t) (texts es rest are)

-- each is accepted
pub proposals-taken : (es : List Entry) (text : List ℕ) → All IsEntry es → AllPairs (λ e f. e ≢ f) es → length es ≤ MAX_PIECES → AreProposed es text
    → IsRun text (flat_map taken_text es) false
proposals-taken es text all apart few h =
    let ps = pieces es text h in
    answers_all _ (lines_of text) (flat_map taken_text es) false
    (subst (λ (cs : List Command). AnswersCommands [] cs (flat_map taken_text es) false) (sym (commands es text h all))
    (subst (λ (t : List ℕ). AnswersCommands [] (map submission_of ps) t false) (texts es text h)
    (submissions_are_accepted ps (standing es text h all apart few) (short es text h))))

-- and its piece is of the entry
pub proposals-pieces : (es : List Entry) (text : List ℕ) → All IsEntry es → AllPairs (λ e f. e ≢ f) es → length es ≤ MAX_PIECES → AreProposed es text
    → map (λ p. p.entry) (pieces_of text) ≡ es
proposals-pieces es text all apart few h =
    let ps = pieces es text h in
    ap (λ (cs : List Command). map (λ (p : PieceValue). p.entry) (fold pieces_after [] cs)) (commands es text h all)
    ∙ ap (map (λ (p : PieceValue). p.entry)) (brought_back [] ps (standing es text h all apart few) (short es text h))
    ∙ entries es text h
