-- The verdict that is found line by line is the verdict on a document, and there is no other.
use Rattle.std.proofs.Common.{◌≡◌, ◌≢◌, ◌⊎◌, ◌≤◌, ◌<◌, ℕ, zero, suc, ◌+◌, Bool, true, false, not, ◌&&◌, cond, List, [], ◌∷◌, ◌++◌, length, Option, Some, None, Result, Ok, Err, IfOk, IfErr, refl, sym, ap, subst, ◌∙◌, append_assoc, append-nil, length-append, inl, inr, arith}
use Rattle.std.specs.Prelude.{◌==◌, All, codes}
use Rattle.std.specs.List.{AllByRecursion}
use Rattle.std.specs.Str.{bytes_eq}
use Rattle.std.proofs.lemmas.Bool.Decides.{nat_tests}
use Rattle.std.proofs.lemmas.List.Elements.{recursion_from_All, All-head, All-tail}
use Rattle.std.proofs.lemmas.Option.{same_Some}
use Rattle.std.proofs.lemmas.Slice.Eq.{bytes_eq-Decides}
use Rattle.ct_io.specs.Lines.{lines_of, ended_lines}
use Rattle.ct_text.specs.Line.{words_of}
use Rattle.ct_text.specs.Gathering.{is_end, IsDocument, IsCutShort, less_last, with_line}
use Rattle.ct_text.specs.declared.gathering.Extent.{Extent}
use Rattle.ct_text.specs.declared.gathering.Extent.TheVariants.{ToEnd, Lines}
use Rattle.ct_text.specs.declared.gathering.Gathered.TheVariants.{More, Whole}
use Rattle.ct_commands.proofs.DocumentLines.{grouped}
use Rattle.ct_commands.proofs.Inputs.{Begins, begins_or_not}
use Rattle.ct_commands.proofs.Submissions.{less_last_ended}
use Rattle.ct_words.specs.declared.claim.Claim.{Claim}
use Rattle.ct_rules.specs.declared.rule.Rule.{Rule}
use Rattle.ct_rules.specs.Derivation.{LineValue}
use Rattle.ct_kind.specs.declared.fault.SubmitFault.{SubmitFault}
use Rattle.ct_piece.specs.Piece.{PieceValue}
use Rattle.ct_piece.specs.Submission.{submitted}
use Rattle.ct_piece.specs.Supports.{supports_of}
use Rattle.ct_derive.specs.Check.{line_fault, line_by}
use Rattle.ct_derive.specs.declared.check.LineFault.{LineFault}
use Rattle.ct_verify.specs.Document.{Stage, why_of, line_outcome, block_outcome, Leads, AreReadTo, IsVerified, Fails, IsVerdict}
use Rattle.ct_verify.specs.Document.Stage.{Unopened, Open, Closed}
use Rattle.ct_verify.specs.Document.Leads.{opening, evidence, one_line, closing}
use Rattle.ct_verify.specs.Document.AreReadTo.{nothing, and_then}
use Rattle.ct_names.specs.Id.{is_id}
use Rattle.ct_text.specs.Number.{number_of}
use Rattle.ct_verify.specs.Heading.{lines_extent, heading_with, heading_of}
use Rattle.ct_verify.specs.Inside.Read.{ReadingValue, unread, in_part}
use Rattle.ct_verify.specs.Inside.Reading.{unless_wrong, by_rule, read_line, read_heading, is_only, read_body, read_block, after_block, read_next}
use Rattle.ct_verify.specs.Stated.{IsStated}
use Rattle.ct_verify.specs.Inside.StatedLine.{stated_as}
use Rattle.ct_verify.specs.Inside.StatedLine.{StatedLineValue, line_of}
use Rattle.ct_verify.specs.Stated.{resolved}
use Rattle.ct_verify.specs.Inside.Step.{AfterLine, On, Failed}
use Rattle.ct_verify.specs.Inside.Verdict.{verdict_after, verdict_from, verdict_of, AreRead}
use Rattle.ct_verify.specs.declared.heading.Heading.{Heading}
use Rattle.ct_verify.specs.declared.part.Block.{Block}
use Rattle.ct_verify.specs.declared.part.Part.TheVariants as part
use Rattle.ct_verify.specs.declared.verdict.Why.{Why}
use Rattle.ct_verify.specs.declared.verdict.Why.TheVariants as why
use Rattle.ct_verify.specs.declared.verdict.Verdict.{Verdict}
use Rattle.ct_verify.specs.declared.verdict.Verdict.TheVariants.{Yes, No}
use Rattle.ct_verify.proofs.ReadingLemmas.{unread-sound}
use Rattle.ct_verify.proofs.StatedWords.{line-read, line-written}
use Rattle.ct_verify.proofs.VerdictLemmas.{AreRead-sound, yes_from_read}
use Rattle.ct_rules.proofs.Derivations.{lines_are_true}
use Rattle.ct_piece.proofs.SupportLemmas.{supports_stand}

-- ---- what was read at a stage

abbrev reading_of : Stage → ReadingValue
reading_of Unopened = unread
reading_of (Open pieces lines) = record { pieces = pieces; lines = lines; part = part.Body }
reading_of (Closed pieces lines) = record { pieces = pieces; lines = lines; part = part.Done }

-- the step that leads there, from a text line with this number on
abbrev step_to : ℕ → Result Stage Why → AfterLine
step_to k (Ok s) = On (reading_of s)
step_to k (Err w) = Failed k w

-- the verdict on the text lines after one
abbrev later : ℕ → List (List ℕ) → ReadingValue → Verdict
later k texts next = verdict_from next (k + 1) texts

AreRead-append : (xs ys : List (List ℕ)) (r s t : ReadingValue) (k : ℕ) → AreRead r k xs s → AreRead s (k + length xs) ys t → AreRead r k (xs ++ ys) t
AreRead-append [] ys r s t k h g =
    let same : k + 0 ≡ k = omega arith in
    subst (λ (q : ReadingValue). AreRead q k ys t) (sym h) (subst (λ (n : ℕ). AreRead s n ys t) same g)
AreRead-append (x ∷ xs) ys r s t k h g =
    let same : k + suc (length xs) ≡ k + 1 + length xs = omega arith in
    (h.0, h.1, AreRead-append xs ys h.0 s t (k + 1) h.2 (subst (λ (n : ℕ). AreRead s n ys t) same g))

-- the verdict after text lines that are read is that on the others
after_read : (before left : List (List ℕ)) (r s : ReadingValue) (k : ℕ) → AreRead r k before s → verdict_from r k (before ++ left) ≡ verdict_from s (k + length before) left
after_read [] left r s k read =
    let same : k ≡ k + 0 = omega arith in
    ap (λ (q : ReadingValue). verdict_from q k left) read ∙ ap (λ (n : ℕ). verdict_from s n left) same
after_read (text ∷ before) left r s k read =
    let same : k + 1 + length before ≡ k + suc (length before) = omega arith in
    ap (λ (step : AfterLine). verdict_after step (later k (before ++ left))) read.1
    ∙ after_read before left read.0 s (k + 1) read.2
    ∙ ap (λ (n : ℕ). verdict_from s n left) same

-- ---- forms of one text line

fault-step : (pieces : List PieceValue) (lines : List LineValue) (k : ℕ) (l : LineValue) (fault : Option LineFault)
    → unless_wrong (reading_of (Open pieces lines)) k l fault ≡ step_to k (elim fault [ None ↦ Ok (Open pieces (lines ++ l ∷ [])) | Some f ↦ Err (why_of f) ])
fault-step pieces lines k l None = refl
fault-step pieces lines k l (Some fault) = refl

rule-step : (pieces : List PieceValue) (lines : List LineValue) (k number : ℕ) (c : Claim) (named : Rule) (id : Option (List ℕ)) (count : ℕ) (from : List ℕ) (rule : Option Rule)
    → by_rule (reading_of (Open pieces lines)) k (stated_as number c named id count from) rule ≡ step_to k (line_outcome pieces lines c from rule)
rule-step pieces lines k number c named id count from None = refl
rule-step pieces lines k number c named id count from (Some r) = fault-step pieces lines k (line_by c r from) (line_fault (supports_of pieces) lines c r from)

same : (n : ℕ) → (n == n) ≡ true
same n = grind (arith, nat_tests)

not_zero : (n : ℕ) → (suc n == 0) ≡ false
not_zero n = grind (arith, nat_tests)

opening-step : (k : ℕ) (text : List ℕ) → words_of text ≡ codes "derivation" ∷ [] → read_next (reading_of Unopened) k text ≡ step_to k (Ok (Open [] []))
unfolding read_next
opening-step k text are = ap (λ (ws : List (List ℕ)). cond (is_only (codes "derivation") ws) (On (reading_of (Open [] []))) (Failed k why.Form)) are

line-step : (pieces : List PieceValue) (lines : List LineValue) (k : ℕ) (text : List ℕ) (words : List (List ℕ)) (c : Claim) (r : Rule) (id : Option (List ℕ)) (from : List ℕ)
    → words_of text ≡ codes "line" ∷ words → IsStated words (suc (length lines)) c r id from
    → read_next (reading_of (Open pieces lines)) k text ≡ step_to k (line_outcome pieces lines c from (resolved pieces r id))
unfolding read_next
line-step pieces lines k text words c r id from are h =
    ap (read_body (reading_of (Open pieces lines)) k) are
    ∙ ap (read_line (reading_of (Open pieces lines)) k) (line-read words (suc (length lines)) c r id from h)
    ∙ ap (λ (b : Bool). cond b (by_rule (reading_of (Open pieces lines)) k (stated_as (suc (length lines)) c r id (length h.arguments) from) (resolved pieces r id)) (Failed k why.Form))
    (same (suc (length lines)))
    ∙ rule-step pieces lines k (suc (length lines)) c r id (length h.arguments) from (resolved pieces r id)

closing-step : (pieces : List PieceValue) (lines : List LineValue) (k : ℕ) (text : List ℕ) → lines ≢ [] → words_of text ≡ codes "done" ∷ []
    → read_next (reading_of (Open pieces lines)) k text ≡ step_to k (Ok (Closed pieces lines))
unfolding read_next
closing-step pieces [] k text some are = absurd (some refl)
closing-step pieces (l ∷ lines) k text some are =
    ap (read_body (reading_of (Open pieces (l ∷ lines))) k) are
    ∙ ap (λ (b : Bool). cond (not b) (On (reading_of (Closed pieces (l ∷ lines)))) (Failed k why.Form)) (not_zero (length lines))

-- ---- blocks of evidence

-- in a block of evidence that text line k begins
abbrev inside : List PieceValue → ℕ → List ℕ → Extent → List ℕ → ReadingValue
inside pieces k id extent text = record {
  pieces = pieces;
  lines = [];
  part = part.Evidence (record { line = k; id = id; document = record { extent = extent; text = text } });
}

heading-step : (pieces : List PieceValue) (k : ℕ) (text : List ℕ) (words : List (List ℕ)) (id : List ℕ) (extent : Extent) → words_of text ≡ codes "evidence" ∷ words
    → heading_of words ≡ Some (record { id = id; extent = extent }) → read_next (reading_of (Open pieces [])) k text ≡ On (inside pieces k id extent [])
unfolding read_next
heading-step pieces k text words id extent are is =
    ap (read_body (reading_of (Open pieces [])) k) are ∙ ap (read_heading (reading_of (Open pieces [])) k) is

block-step : (pieces : List PieceValue) (k : ℕ) (id : List ℕ) (extent : Extent) (text : List ℕ) (made : Result PieceValue SubmitFault)
    → after_block (inside pieces k id extent text) k made ≡ step_to k (block_outcome pieces made)
block-step pieces k id extent text (Ok piece) = refl
block-step pieces k id extent text (Err fault) = refl

-- the text lines of a block but for the last are read into it, and with the last one its document is submitted
record IsBlockRead (pieces : List PieceValue) (k : ℕ) (id : List ℕ) (r : ReadingValue) (block : List (List ℕ)) (document : List ℕ) : Type 0 where
  front : List (List ℕ)
  last : List ℕ
  reading : ReadingValue
  divided : block ≡ front ++ last ∷ []
  read : (j : ℕ) → AreRead r j front reading
  ends : (j : ℕ) → read_next reading j last ≡ step_to k (block_outcome pieces (submitted pieces id document))

one_more : (pieces : List PieceValue) (k : ℕ) (id : List ℕ) (r s : ReadingValue) (text : List ℕ) (block : List (List ℕ)) (document : List ℕ) → ((j : ℕ) → read_next r j text ≡ On s)
    → IsBlockRead pieces k id s block document → IsBlockRead pieces k id r (text ∷ block) document
one_more pieces k id r s text block document step h = record {
  front = text ∷ h.front;
  last = h.last;
  reading = h.reading;
  divided = ap (λ (ls : List (List ℕ)). text ∷ ls) h.divided;
  read = λ j. (s, step j, h.read (j + 1));
  ends = h.ends;
}

goes_on : (pieces : List PieceValue) (k j : ℕ) (id text line : List ℕ) → is_end line ≡ false → read_next (inside pieces k id ToEnd text) j line ≡ On (inside pieces k id ToEnd (with_line text line))
unfolding read_next
goes_on pieces k j id text line none =
    let b : Block = record { line = k; id = id; document = record { extent = ToEnd; text = text } } in
    ap (λ (e : Bool). read_block (inside pieces k id ToEnd text) b (cond e (Whole (less_last text)) (More (record { extent = ToEnd; text = with_line text line })))) none

ended : (pieces : List PieceValue) (k j : ℕ) (id text line : List ℕ) → is_end line ≡ true
    → read_next (inside pieces k id ToEnd text) j line ≡ step_to k (block_outcome pieces (submitted pieces id (less_last text)))
unfolding read_next
ended pieces k j id text line ends =
    let b : Block = record { line = k; id = id; document = record { extent = ToEnd; text = text } } in
    ap (λ (e : Bool). read_block (inside pieces k id ToEnd text) b (cond e (Whole (less_last text)) (More (record { extent = ToEnd; text = with_line text line })))) ends
    ∙ block-step pieces k id ToEnd text (submitted pieces id (less_last text))

counts_on : (pieces : List PieceValue) (k j more : ℕ) (id text line : List ℕ)
    → read_next (inside pieces k id (Lines (suc (suc more))) text) j line ≡ On (inside pieces k id (Lines (suc more)) (with_line text line))
unfolding read_next
counts_on pieces k j more id text line = refl

counted_out : (pieces : List PieceValue) (k j : ℕ) (id text line : List ℕ)
    → read_next (inside pieces k id (Lines 1) text) j line ≡ step_to k (block_outcome pieces (submitted pieces id (less_last (with_line text line))))
unfolding read_next
counted_out pieces k j id text line = block-step pieces k id (Lines 1) text (submitted pieces id (less_last (with_line text line)))

to_end-read : (pieces : List PieceValue) (k : ℕ) (id text : List ℕ) (lines : List (List ℕ)) (last : List ℕ) → AllByRecursion (λ l. is_end l ≡ false) lines → is_end last ≡ true
    → IsBlockRead pieces k id (inside pieces k id ToEnd text) (lines ++ last ∷ []) (less_last (text ++ ended_lines lines))
to_end-read pieces k id text [] last none ends = record {
  front = [];
  last = last;
  reading = inside pieces k id ToEnd text;
  divided = refl;
  read = λ j. refl;
  ends = λ j. ended pieces k j id text last ends ∙ ap (λ (t : List ℕ). step_to k (block_outcome pieces (submitted pieces id (less_last t)))) (sym (append-nil text));
}
to_end-read pieces k id text (line ∷ lines) last none ends =
    one_more pieces k id (inside pieces k id ToEnd text) (inside pieces k id ToEnd (with_line text line)) line (lines ++ last ∷ []) (less_last (text ++ ended_lines (line ∷ lines)))
    (λ j. goes_on pieces k j id text line none.0)
    (subst (λ (t : List ℕ). IsBlockRead pieces k id (inside pieces k id ToEnd (with_line text line)) (lines ++ last ∷ []) (less_last t)) (grouped text line lines)
    (to_end-read pieces k id (with_line text line) lines last none.1 ends))

counted-read : (pieces : List PieceValue) (k : ℕ) (id text first : List ℕ) (lines : List (List ℕ))
    → IsBlockRead pieces k id (inside pieces k id (Lines (suc (length lines))) text) (first ∷ lines) (less_last (text ++ ended_lines (first ∷ lines)))
counted-read pieces k id text first [] = record {
  front = [];
  last = first;
  reading = inside pieces k id (Lines 1) text;
  divided = refl;
  read = λ j. refl;
  ends = λ j. counted_out pieces k j id text first
      ∙ ap (λ (t : List ℕ). step_to k (block_outcome pieces (submitted pieces id (less_last t)))) (sym (append-nil (with_line text first)) ∙ grouped text first []);
}
counted-read pieces k id text first (second ∷ lines) =
    one_more pieces k id (inside pieces k id (Lines (suc (suc (length lines)))) text) (inside pieces k id (Lines (suc (length lines))) (with_line text first)) first (second ∷ lines)
    (less_last (text ++ ended_lines (first ∷ second ∷ lines))) (λ j. counts_on pieces k j (length lines) id text first)
    (subst (λ (t : List ℕ). IsBlockRead pieces k id (inside pieces k id (Lines (suc (length lines))) (with_line text first)) (second ∷ lines) (less_last t))
    (grouped text first (second ∷ lines)) (counted-read pieces k id (with_line text first) second lines))

-- a heading asks for some lines, where it says how many
abbrev IsSomeExtent : Extent → Type 0
IsSomeExtent ToEnd = Unit {0}
IsSomeExtent (Lines count) = 0 < count

abbrev AsksForSome : Option Heading → Type 0
AsksForSome None = Unit {0}
AsksForSome (Some h) = IsSomeExtent h.extent

some-lines_extent : (id : List ℕ) (count : Option ℕ) → AsksForSome (heading_with id (lines_extent count))
some-lines_extent id None = tt
some-lines_extent id (Some zero) = tt
some-lines_extent id (Some (suc more)) = by (is_id id) where
  by : (b : Bool) → AsksForSome (cond b (Some (record { id = id; extent = Lines (suc more) })) None)
  by true = omega arith
  by false = tt

some-heading_of : (words : List (List ℕ)) → AsksForSome (heading_of words)
some-heading_of [] = tt
some-heading_of (id ∷ []) = by (is_id id) where
  by : (b : Bool) → AsksForSome (cond b (Some (record { id = id; extent = ToEnd })) None)
  by true = tt
  by false = tt
some-heading_of (id ∷ word ∷ []) = tt
some-heading_of (id ∷ word ∷ count ∷ []) = by (bytes_eq word (codes "lines")) where
  by : (b : Bool) → AsksForSome (cond b (heading_with id (lines_extent (number_of count))) None)
  by true = some-lines_extent id (number_of count)
  by false = tt
some-heading_of (id ∷ word ∷ count ∷ other ∷ words) = tt

asks_for_some : (words : List (List ℕ)) (id : List ℕ) (extent : Extent) → heading_of words ≡ Some (record { id = id; extent = extent }) → IsSomeExtent extent
asks_for_some words id extent is = subst AsksForSome is (some-heading_of words)

block-read : (pieces : List PieceValue) (k : ℕ) (id : List ℕ) (extent : Extent) (block : List (List ℕ)) (document : List ℕ) → IsSomeExtent extent
    → IsDocument extent block document → IsBlockRead pieces k id (inside pieces k id extent []) block document
block-read pieces k id ToEnd block document some (lines, last, is, none, ends, joined) =
    subst (λ (b : List (List ℕ)). IsBlockRead pieces k id (inside pieces k id ToEnd []) b document) (sym is)
    (subst (IsBlockRead pieces k id (inside pieces k id ToEnd []) (lines ++ last ∷ [])) (less_last_ended lines ∙ sym joined)
    (to_end-read pieces k id [] lines last (recursion_from_All (λ l. is_end l ≡ false) lines none) ends))
block-read pieces k id (Lines count) [] document some (size, joined) = absurd (omega (arith, size, some))
block-read pieces k id (Lines count) (first ∷ lines) document some (size, joined) =
    subst (λ (c : ℕ). IsBlockRead pieces k id (inside pieces k id (Lines c) []) (first ∷ lines) document) size
    (subst (IsBlockRead pieces k id (inside pieces k id (Lines (suc (length lines))) []) (first ∷ lines)) (less_last_ended (first ∷ lines) ∙ sym joined)
    (counted-read pieces k id [] first lines))

-- ---- where text lines lead

single-read : (s : Stage) (k : ℕ) (text : List ℕ) (o : Result Stage Why) → read_next (reading_of s) k text ≡ step_to k o → IfOk o (λ t. AreRead (reading_of s) k (text ∷ []) (reading_of t))
single-read s k text (Ok t) is = (reading_of t, is, refl)
single-read s k text (Err w) is = tt

single-fails : (s : Stage) (k : ℕ) (text : List ℕ) (o : Result Stage Why) (back : List (List ℕ)) → read_next (reading_of s) k text ≡ step_to k o
    → IfErr o (λ w. verdict_from (reading_of s) k (text ∷ back) ≡ No k w)
single-fails s k text (Ok t) back is = tt
single-fails s k text (Err w) back is = ap (λ (step : AfterLine). verdict_after step (later k back)) is

ends-read : (r : ReadingValue) (k j : ℕ) (last : List ℕ) (o : Result Stage Why) → read_next r j last ≡ step_to k o → IfOk o (λ t. AreRead r j (last ∷ []) (reading_of t))
ends-read r k j last (Ok t) is = (reading_of t, is, refl)
ends-read r k j last (Err w) is = tt

ends-fails : (r : ReadingValue) (k j : ℕ) (last : List ℕ) (o : Result Stage Why) (back : List (List ℕ)) → read_next r j last ≡ step_to k o → IfErr o (λ w. verdict_from r j (last ∷ back) ≡ No k w)
ends-fails r k j last (Ok t) back is = tt
ends-fails r k j last (Err w) back is = ap (λ (step : AfterLine). verdict_after step (later j back)) is

-- a block of evidence with its heading is read
block_read : (pieces : List PieceValue) (k : ℕ) (text id : List ℕ) (r : ReadingValue) (block : List (List ℕ)) (document : List ℕ) (o : Result Stage Why)
    → read_next (reading_of (Open pieces [])) k text ≡ On r → (h : IsBlockRead pieces k id r block document) → block_outcome pieces (submitted pieces id document) ≡ o
    → IfOk o (λ t. AreRead (reading_of (Open pieces [])) k (text ∷ block) (reading_of t))
block_read pieces k text id r block document (Err w) headed h is = tt
block_read pieces k text id r block document (Ok t) headed h is =
    let end = ends-read h.reading k (k + 1 + length h.front) h.last (Ok t) (h.ends (k + 1 + length h.front) ∙ ap (step_to k) is) in
    (r, headed, subst (λ (b : List (List ℕ)). AreRead r (k + 1) b (reading_of t)) (sym h.divided) (AreRead-append h.front (h.last ∷ []) r h.reading (reading_of t) (k + 1) (h.read (k + 1)) end))

-- or its submission is refused
block_fails : (pieces : List PieceValue) (k : ℕ) (text id : List ℕ) (r : ReadingValue) (block : List (List ℕ)) (document : List ℕ) (o : Result Stage Why) (back : List (List ℕ))
    → read_next (reading_of (Open pieces [])) k text ≡ On r → (h : IsBlockRead pieces k id r block document) → block_outcome pieces (submitted pieces id document) ≡ o
    → IfErr o (λ w. verdict_from (reading_of (Open pieces [])) k (text ∷ block ++ back) ≡ No k w)
block_fails pieces k text id r block document (Ok t) back headed h is = tt
block_fails pieces k text id r block document (Err w) back headed h is =
    ap (λ (step : AfterLine). verdict_after step (later k (block ++ back))) headed
    ∙ ap (λ (b : List (List ℕ)). verdict_from r (k + 1) (b ++ back)) h.divided
    ∙ ap (verdict_from r (k + 1)) (append_assoc h.front (h.last ∷ []) back)
    ∙ after_read h.front (h.last ∷ back) r h.reading (k + 1) (h.read (k + 1))
    ∙ ends-fails h.reading k (k + 1 + length h.front) h.last (Err w) back (h.ends (k + 1 + length h.front) ∙ ap (step_to k) is)

leads-read : (s : Stage) (front : List (List ℕ)) (o : Result Stage Why) (k : ℕ) → Leads s front o → IfOk o (λ t. AreRead (reading_of s) k front (reading_of t))
leads-read s front o k (opening text are) = single-read Unopened k text (Ok (Open [] [])) (opening-step k text are)
leads-read s front o k (evidence pieces text words id extent block document are goes whole) =
    block_read pieces k text id (inside pieces k id extent []) block document (block_outcome pieces (submitted pieces id document)) (heading-step pieces k text words id extent are goes)
    (block-read pieces k id extent block document (asks_for_some words id extent goes) whole) refl
leads-read s front o k (one_line pieces lines text words c r id from are h) =
    single-read (Open pieces lines) k text (line_outcome pieces lines c from (resolved pieces r id)) (line-step pieces lines k text words c r id from are h)
leads-read s front o k (closing pieces lines text some are) = single-read (Open pieces lines) k text (Ok (Closed pieces lines)) (closing-step pieces lines k text some are)

leads-fails : (s : Stage) (front : List (List ℕ)) (o : Result Stage Why) (k : ℕ) (back : List (List ℕ)) → Leads s front o → IfErr o (λ w. verdict_from (reading_of s) k (front ++ back) ≡ No k w)
leads-fails s front o k back (opening text are) = tt
leads-fails s front o k back (evidence pieces text words id extent block document are goes whole) =
    block_fails pieces k text id (inside pieces k id extent []) block document (block_outcome pieces (submitted pieces id document)) back
    (heading-step pieces k text words id extent are goes) (block-read pieces k id extent block document (asks_for_some words id extent goes) whole) refl
leads-fails s front o k back (one_line pieces lines text words c r id from are h) =
    single-fails (Open pieces lines) k text (line_outcome pieces lines c from (resolved pieces r id)) back (line-step pieces lines k text words c r id from are h)
leads-fails s front o k back (closing pieces lines text some are) = tt

read_to : (before : List (List ℕ)) (s : Stage) → AreReadTo before s → AreRead unread 1 before (reading_of s)
read_to before s nothing = refl
read_to before s (and_then first texts r t h l) =
    AreRead-append first texts unread (reading_of r) (reading_of t) 1 (read_to first r h) (leads-read r texts (Ok t) (1 + length first) l)

-- ---- what form the next text line has

-- the next text line and those after it have a form that may stand at a stage
abbrev HasForm : Stage → List ℕ → List (List ℕ) → Type 0
HasForm Unopened text rest = words_of text ≡ codes "derivation" ∷ []
HasForm (Open pieces lines) text rest =
    ((words : List (List ℕ)) × (id : List ℕ) × (extent : Extent) × (document : List ℕ) × (lines ≡ []) × (words_of text ≡ codes "evidence" ∷ words)
    × (heading_of words ≡ Some (record { id = id; extent = extent })) × IsDocument extent rest document)
    ⊎ (((words : List (List ℕ)) × (c : Claim) × (r : Rule) × (id : Option (List ℕ)) × (from : List ℕ) × (words_of text ≡ codes "line" ∷ words)
    × IsStated words (suc (length lines)) c r id from)
    ⊎ ((lines ≢ []) × (words_of text ≡ codes "done" ∷ [])))
HasForm (Closed pieces lines) text rest = ⊥

form_of_leads : (s : Stage) (front : List (List ℕ)) (o : Result Stage Why) → Leads s front o → (text : List ℕ) × (rest : List (List ℕ)) × (front ≡ text ∷ rest) × HasForm s text rest
form_of_leads s front o (opening text are) = (text, [], refl, are)
form_of_leads s front o (evidence pieces text words id extent block document are goes whole) =
    (text, block, refl, inl (words, id, extent, document, refl, are, goes, whole))
form_of_leads s front o (one_line pieces lines text words c r id from are h) = (text, [], refl, inr (inl (words, c, r, id, from, are, h)))
form_of_leads s front o (closing pieces lines text some are) = (text, [], refl, inr (inr (some, are)))

-- at the end no text lines lead anywhere
none_at_end : (s : Stage) (front back : List (List ℕ)) (o : Result Stage Why) → [] ≡ front ++ back → Leads s front o → ⊥
none_at_end s front back o is l =
    let (text, rest, same, form) = form_of_leads s front o l in
    let e : [] ≡ text ∷ (rest ++ back) = is ∙ ap (λ (f : List (List ℕ)). f ++ back) same in
    cc

none_there : (s : Stage) (text : List ℕ) (texts : List (List ℕ)) → ((rest back : List (List ℕ)) → texts ≡ rest ++ back → HasForm s text rest → ⊥)
    → (front back : List (List ℕ)) (o : Result Stage Why) → text ∷ texts ≡ front ++ back → Leads s front o → ⊥
none_there s text texts none front back o is l =
    let (first, rest, same, form) = form_of_leads s front o l in
    let e : text ∷ texts ≡ first ∷ (rest ++ back) = is ∙ ap (λ (f : List (List ℕ)). f ++ back) same in
    let own : first ≡ text = cc in
    let others : texts ≡ rest ++ back = cc in
    none rest back others (subst (λ (t : List ℕ). HasForm s t rest) own form)

-- the document is closed and at its end; or the next text lines lead on; or none at their front have a form that may stand there, and the next one fails
data Next (s : Stage) (texts : List (List ℕ)) : Type 0 where
  closed : (pieces : List PieceValue) (lines : List LineValue) → s ≡ Closed pieces lines → texts ≡ [] → Next s texts
  leads : (front back : List (List ℕ)) (o : Result Stage Why) → texts ≡ front ++ back → 0 < length front → Leads s front o → Next s texts
  formless : ((pieces : List PieceValue) (lines : List LineValue) → s ≡ Closed pieces lines → texts ≢ [])
      → ((front back : List (List ℕ)) (o : Result Stage Why) → texts ≡ front ++ back → Leads s front o → ⊥)
      → ((k : ℕ) → verdict_from (reading_of s) k texts ≡ No k why.Form) → Next s texts

formless_there : (s : Stage) (text : List ℕ) (texts : List (List ℕ)) → ((rest back : List (List ℕ)) → texts ≡ rest ++ back → HasForm s text rest → ⊥)
    → ((k : ℕ) → verdict_from (reading_of s) k (text ∷ texts) ≡ No k why.Form) → Next s (text ∷ texts)
formless_there s text texts none fails = formless (λ pieces lines e. λ empty. cc) (none_there s text texts none) fails

-- a text line that fails by itself
fails_so : (s : Stage) (k : ℕ) (text : List ℕ) (texts : List (List ℕ)) → read_next (reading_of s) k text ≡ Failed k why.Form → verdict_from (reading_of s) k (text ∷ texts) ≡ No k why.Form
fails_so s k text texts is = ap (λ (step : AfterLine). verdict_after step (later k texts)) is

no_other_word : (word first second : List ℕ) → bytes_eq word first ≡ true → word ≡ second → bytes_eq second first ≡ true
no_other_word word first second is same = ap (λ (w : List ℕ). bytes_eq w first) (sym same) ∙ is

is_word : (word name : List ℕ) → bytes_eq word name ≡ true → word ≡ name
is_word word name is = (bytes_eq-Decides word name).0 is

only : (name : List ℕ) (words : List (List ℕ)) → is_only name words ≡ true → words ≡ name ∷ []
only name [] is = absurd cc
only name (word ∷ []) is = ap (λ (w : List ℕ). w ∷ []) (is_word word name is)
only name (word ∷ other ∷ words) is = absurd cc

next_opening : (text : List ℕ) (texts : List (List ℕ)) → Next Unopened (text ∷ texts)
unfolding read_next
next_opening text texts = by (is_only (codes "derivation") (words_of text)) refl where
  by : (b : Bool) → is_only (codes "derivation") (words_of text) ≡ b → Next Unopened (text ∷ texts)
  by true e = leads (text ∷ []) texts (Ok (Open [] [])) refl (omega arith) (opening text (only (codes "derivation") (words_of text) e))
  by false e = formless_there Unopened text texts (λ rest back is are. let other = ap (is_only (codes "derivation")) are in cc)
      (λ k. fails_so Unopened k text texts (ap (λ (b : Bool). cond b (On (reading_of (Open [] []))) (Failed k why.Form)) e))

no_end_within : (lines : List (List ℕ)) (last : List ℕ) (back : List (List ℕ)) → All (λ l. is_end l ≡ false) (lines ++ last ∷ back) → is_end last ≡ false
no_end_within [] last back none = All-head (λ l. is_end l ≡ false) last back none
no_end_within (first ∷ lines) last back none = no_end_within lines last back (All-tail (λ l. is_end l ≡ false) first (lines ++ last ∷ back) none)

-- text lines that are cut short and a whole document
short_or_whole : (extent : Extent) (block back : List (List ℕ)) (document : List ℕ) → IsCutShort extent (block ++ back) → IsDocument extent block document → ⊥
short_or_whole ToEnd block back document none (lines, last, is, others, ends, joined) =
    let all = subst (λ (b : List (List ℕ)). All (λ l. is_end l ≡ false) (b ++ back)) is none in
    let no_end = no_end_within lines last back (subst (All (λ l. is_end l ≡ false)) (append_assoc lines (last ∷ []) back) all) in
    cc
short_or_whole (Lines count) block back document short (size, joined) =
    let both = length-append block back in
    omega (arith, short, size, both)

cut_short-fails : (pieces : List PieceValue) (k j : ℕ) (id text : List ℕ) (extent : Extent) (texts : List (List ℕ)) → IsCutShort extent texts
    → verdict_from (inside pieces k id extent text) j texts ≡ No k why.Form
cut_short-fails pieces k j id text ToEnd [] short = refl
cut_short-fails pieces k j id text ToEnd (line ∷ texts) short =
    ap (λ (step : AfterLine). verdict_after step (later j texts)) (goes_on pieces k j id text line (All-head (λ l. is_end l ≡ false) line texts short))
    ∙ cut_short-fails pieces k (j + 1) id (with_line text line) ToEnd texts (All-tail (λ l. is_end l ≡ false) line texts short)
cut_short-fails pieces k j id text (Lines count) [] short = refl
cut_short-fails pieces k j id text (Lines zero) (line ∷ texts) short = absurd (omega (arith, short))
cut_short-fails pieces k j id text (Lines (suc zero)) (line ∷ texts) short = absurd (omega (arith, short))
cut_short-fails pieces k j id text (Lines (suc (suc count))) (line ∷ texts) short =
    ap (λ (step : AfterLine). verdict_after step (later j texts)) (counts_on pieces k j count id text line)
    ∙ cut_short-fails pieces k (j + 1) id (with_line text line) (Lines (suc count)) texts (omega (arith, short))

-- the next text line where the document is unclosed: its words are none
next_empty : (pieces : List PieceValue) (lines : List LineValue) (text : List ℕ) (texts : List (List ℕ)) → words_of text ≡ [] → Next (Open pieces lines) (text ∷ texts)
unfolding read_next
next_empty pieces lines text texts empty = formless_there (Open pieces lines) text texts none
    (λ k. fails_so (Open pieces lines) k text texts (ap (read_body (reading_of (Open pieces lines)) k) empty)) where
      none : (rest back : List (List ℕ)) → texts ≡ rest ++ back → HasForm (Open pieces lines) text rest → ⊥
      none rest back is (inl (words, id, extent, document, first, are, goes, whole)) = let e = sym empty ∙ are in cc
      none rest back is (inr (inl (words, c, r, id, from, are, h))) = let e = sym empty ∙ are in cc
      none rest back is (inr (inr (some, are))) = let e = sym empty ∙ are in cc

-- the first of them is `line`
next_line : (pieces : List PieceValue) (lines : List LineValue) (text word : List ℕ) (words : List (List ℕ)) (texts : List (List ℕ)) → words_of text ≡ word ∷ words → bytes_eq word (codes "line") ≡ true
    → Next (Open pieces lines) (text ∷ texts)
unfolding read_next
next_line pieces lines text word words texts are named = by (line_of words) refl where
  r : ReadingValue
  r = reading_of (Open pieces lines)

  -- the text line is read as this line
  reads : (k : ℕ) (o : Option StatedLineValue) → line_of words ≡ o → read_next r k text ≡ read_line r k o
  reads k o is =
      ap (read_body r k) are
      ∙ ap (λ (b : Bool). cond b (read_line r k (line_of words)) (cond (bytes_eq word (codes "evidence")) (read_heading r k (heading_of words)) (cond (is_only (codes "done") (word ∷ words) && not (length lines == 0)) (On (reading_of (Closed pieces lines))) (Failed k why.Form)))) named
      ∙ ap (read_line r k) is

  none : (o : Option StatedLineValue) → line_of words ≡ o → ((l : StatedLineValue) → o ≡ Some l → l.number ≡ suc (length lines) → ⊥)
      → (rest back : List (List ℕ)) → texts ≡ rest ++ back → HasForm (Open pieces lines) text rest → ⊥
  none o is other rest back divided (inl (ws, id, extent, document, first, own, goes, whole)) =
      let e = sym are ∙ own in
      let same_word : word ≡ codes "evidence" = cc in
      let both = no_other_word word (codes "line") (codes "evidence") named same_word in cc
  none o is other rest back divided (inr (inl (ws, c, rule, id, from, own, h))) =
      let e = sym are ∙ own in
      let same_words : words ≡ ws = cc in
      let read = line-read ws (suc (length lines)) c rule id from h in
      other (stated_as (suc (length lines)) c rule id (length h.arguments) from) (sym is ∙ ap line_of same_words ∙ read) refl
  none o is other rest back divided (inr (inr (some, own))) =
      let e = sym are ∙ own in
      let same_word : word ≡ codes "done" = cc in
      let both = no_other_word word (codes "line") (codes "done") named same_word in cc

  numbered : (l : StatedLineValue) → line_of words ≡ Some l → (b : Bool) → (l.number == suc (length lines)) ≡ b → Next (Open pieces lines) (text ∷ texts)
  numbered l is true e =
      let number : l.number ≡ suc (length lines) = equal l.number (suc (length lines)) e in
      leads (text ∷ []) texts (line_outcome pieces lines l.claim l.from (resolved pieces l.rule.rule l.rule.id)) refl (omega arith)
      (one_line pieces lines text words l.claim l.rule.rule l.rule.id l.from (are ∙ ap (λ (w : List ℕ). w ∷ words) (is_word word (codes "line") named))
      (subst (λ (n : ℕ). IsStated words n l.claim l.rule.rule l.rule.id l.from) number (line-written words l is))) where
        equal : (a b : ℕ) → (a == b) ≡ true → a ≡ b
        equal a b t = grind (arith, nat_tests)
  numbered l is false e =
      formless_there (Open pieces lines) text texts (none (Some l) is (λ m same_line number. other_number l.number (suc (length lines)) e (ap (λ (s : StatedLineValue). s.number) (same_Some l m same_line) ∙ number)))
      (λ k. fails_so (Open pieces lines) k text texts (reads k (Some l) is ∙ ap (λ (b : Bool). cond b (by_rule r k l (resolved pieces l.rule.rule l.rule.id)) (Failed k why.Form)) e)) where
        other_number : (a b : ℕ) → (a == b) ≡ false → a ≡ b → ⊥
        other_number a b t u = grind (arith, nat_tests)

  by : (o : Option StatedLineValue) → line_of words ≡ o → Next (Open pieces lines) (text ∷ texts)
  by None is = formless_there (Open pieces lines) text texts (none None is (λ l some number. cc)) (λ k. fails_so (Open pieces lines) k text texts (reads k None is))
  by (Some l) is = numbered l is (l.number == suc (length lines)) refl

-- the first of them is `evidence`
next_evidence : (pieces : List PieceValue) (lines : List LineValue) (text word : List ℕ) (words : List (List ℕ)) (texts : List (List ℕ)) → words_of text ≡ word ∷ words
    → bytes_eq word (codes "line") ≡ false → bytes_eq word (codes "evidence") ≡ true → Next (Open pieces lines) (text ∷ texts)
unfolding read_next
next_evidence pieces lines text word words texts are other named = by (heading_of words) refl where
  r : ReadingValue
  r = reading_of (Open pieces lines)

  reads : (k : ℕ) (o : Option Heading) → heading_of words ≡ o → read_next r k text ≡ read_heading r k o
  reads k o is =
      ap (read_body r k) are
      ∙ ap (λ (b : Bool). cond b (read_line r k (line_of words)) (cond (bytes_eq word (codes "evidence")) (read_heading r k (heading_of words)) (cond (is_only (codes "done") (word ∷ words) && not (length lines == 0)) (On (reading_of (Closed pieces lines))) (Failed k why.Form)))) other
      ∙ ap (λ (b : Bool). cond b (read_heading r k (heading_of words)) (cond (is_only (codes "done") (word ∷ words) && not (length lines == 0)) (On (reading_of (Closed pieces lines))) (Failed k why.Form))) named
      ∙ ap (read_heading r k) is

  none : (o : Option Heading) → heading_of words ≡ o
      → ((id : List ℕ) (extent : Extent) (document : List ℕ) (rest back : List (List ℕ)) → lines ≡ [] → o ≡ Some (record { id = id; extent = extent }) → IsDocument extent rest document → texts ≡ rest ++ back → ⊥)
      → (rest back : List (List ℕ)) → texts ≡ rest ++ back → HasForm (Open pieces lines) text rest → ⊥
  none o is against rest back divided (inl (ws, id, extent, document, first, own, goes, whole)) =
      let e = sym are ∙ own in
      let same_words : words ≡ ws = cc in
      against id extent document rest back first (sym is ∙ ap heading_of same_words ∙ goes) whole divided
  none o is against rest back divided (inr (inl (ws, c, rule, id, from, own, h))) =
      let e = sym are ∙ own in
      let same_word : word ≡ codes "line" = cc in
      let both = ap (λ (w : List ℕ). bytes_eq w (codes "line")) same_word in cc
  none o is against rest back divided (inr (inr (some, own))) =
      let e = sym are ∙ own in
      let same_word : word ≡ codes "done" = cc in
      let both = no_other_word word (codes "evidence") (codes "done") named same_word in cc

  begun : (h : Heading) → heading_of words ≡ Some h → lines ≡ [] → Begins h.extent texts ⊎ IsCutShort h.extent texts → Next (Open pieces lines) (text ∷ texts)
  begun h is empty (inl b) =
      subst (λ (ls : List LineValue). Next (Open pieces ls) (text ∷ texts)) (sym empty)
      (leads (text ∷ b.block) b.rest (block_outcome pieces (submitted pieces h.id b.text)) (ap (λ (ls : List (List ℕ)). text ∷ ls) b.divided) (omega arith)
      (evidence pieces text words h.id h.extent b.block b.text (are ∙ ap (λ (w : List ℕ). w ∷ words) (is_word word (codes "evidence") named)) is b.document))
  begun h is empty (inr short) =
      formless_there (Open pieces lines) text texts
      (none (Some h) is (λ id extent document rest back first same_heading whole divided.
      let goes : h.extent ≡ extent = ap (λ (g : Heading). g.extent) (same_Some h (record { id = id; extent = extent }) same_heading) in
      short_or_whole extent rest back document (subst (λ (x : Extent). IsCutShort x (rest ++ back)) goes (subst (IsCutShort h.extent) divided short)) whole))
      (λ k. ap (λ (ls : List LineValue). verdict_from (reading_of (Open pieces ls)) k (text ∷ texts)) empty
      ∙ ap (λ (step : AfterLine). verdict_after step (later k texts)) (heading-step pieces k text words h.id h.extent (are ∙ ap (λ (w : List ℕ). w ∷ words) (is_word word (codes "evidence") named)) is)
      ∙ cut_short-fails pieces k (k + 1) h.id [] h.extent texts short)

  at : (h : Heading) → heading_of words ≡ Some h → (ls : List LineValue) → lines ≡ ls → Next (Open pieces lines) (text ∷ texts)
  at h is [] empty = begun h is empty (begins_or_not h.extent texts)
  at h is (l ∷ ls) some =
      formless_there (Open pieces lines) text texts (none (Some h) is (λ id extent document rest back first same_heading whole divided. let e = sym some ∙ first in cc))
      (λ k. fails_so (Open pieces lines) k text texts
      (reads k (Some h) is
      ∙ ap (λ (m : List LineValue). read_heading (reading_of (Open pieces m)) k (Some h)) some
      ∙ ap (λ (b : Bool). cond b (On (in_part (part.Evidence (record { line = k; id = h.id; document = record { extent = h.extent; text = [] } })) (reading_of (Open pieces (l ∷ ls))))) (Failed k why.Form)) (not_zero (length ls))))

  by : (o : Option Heading) → heading_of words ≡ o → Next (Open pieces lines) (text ∷ texts)
  by None is =
      formless_there (Open pieces lines) text texts (none None is (λ id extent document rest back first same_heading whole divided. cc))
      (λ k. fails_so (Open pieces lines) k text texts (reads k None is))
  by (Some h) is = at h is lines refl

-- it is neither: the line is `done`, or of no form
next_done : (pieces : List PieceValue) (lines : List LineValue) (text word : List ℕ) (words : List (List ℕ)) (texts : List (List ℕ)) → words_of text ≡ word ∷ words
    → bytes_eq word (codes "line") ≡ false → bytes_eq word (codes "evidence") ≡ false → Next (Open pieces lines) (text ∷ texts)
unfolding read_next
next_done pieces lines text word words texts are no_line no_evidence = by lines refl (is_only (codes "done") (word ∷ words)) refl where
  r : ReadingValue
  r = reading_of (Open pieces lines)

  reads : (k : ℕ) → read_next r k text ≡ cond (is_only (codes "done") (word ∷ words) && not (length lines == 0)) (On (reading_of (Closed pieces lines))) (Failed k why.Form)
  reads k =
      ap (read_body r k) are
      ∙ ap (λ (b : Bool). cond b (read_line r k (line_of words)) (cond (bytes_eq word (codes "evidence")) (read_heading r k (heading_of words)) (cond (is_only (codes "done") (word ∷ words) && not (length lines == 0)) (On (reading_of (Closed pieces lines))) (Failed k why.Form)))) no_line
      ∙ ap (λ (b : Bool). cond b (read_heading r k (heading_of words)) (cond (is_only (codes "done") (word ∷ words) && not (length lines == 0)) (On (reading_of (Closed pieces lines))) (Failed k why.Form))) no_evidence

  none : (lines ≢ [] → is_only (codes "done") (word ∷ words) ≡ false) → (rest back : List (List ℕ)) → texts ≡ rest ++ back → HasForm (Open pieces lines) text rest → ⊥
  none against rest back divided (inl (ws, id, extent, document, first, own, goes, whole)) =
      let e = sym are ∙ own in
      let same_word : word ≡ codes "evidence" = cc in
      let both = ap (λ (w : List ℕ). bytes_eq w (codes "evidence")) same_word in cc
  none against rest back divided (inr (inl (ws, c, rule, id, from, own, h))) =
      let e = sym are ∙ own in
      let same_word : word ≡ codes "line" = cc in
      let both = ap (λ (w : List ℕ). bytes_eq w (codes "line")) same_word in cc
  none against rest back divided (inr (inr (some, own))) =
      let e = sym are ∙ own in
      let done = ap (is_only (codes "done")) e in
      let not_done = against some in cc

  failed : (b : Bool) → (is_only (codes "done") (word ∷ words) && not (length lines == 0)) ≡ b → b ≡ false → (k : ℕ) → read_next r k text ≡ Failed k why.Form
  failed b is fails k = reads k ∙ ap (λ (c : Bool). cond c (On (reading_of (Closed pieces lines))) (Failed k why.Form)) (is ∙ fails)

  and_false : (b : Bool) → (b && false) ≡ false
  and_false true = refl
  and_false false = refl

  by : (ls : List LineValue) → lines ≡ ls → (b : Bool) → is_only (codes "done") (word ∷ words) ≡ b → Next (Open pieces lines) (text ∷ texts)
  by [] empty b is =
      formless_there (Open pieces lines) text texts (none (λ some. absurd (some empty)))
      (λ k. fails_so (Open pieces lines) k text texts
      (failed false (ap (λ (m : List LineValue). is_only (codes "done") (word ∷ words) && not (length m == 0)) empty ∙ and_false (is_only (codes "done") (word ∷ words))) refl k))
  by (l ∷ ls) some false is =
      formless_there (Open pieces lines) text texts (none (λ other. is))
      (λ k. fails_so (Open pieces lines) k text texts (failed false (ap (λ (c : Bool). c && not (length lines == 0)) is) refl k))
  by (l ∷ ls) some true is =
      leads (text ∷ []) texts (Ok (Closed pieces lines)) refl (omega arith)
      (closing pieces lines text (λ empty. let e = sym some ∙ empty in cc) (are ∙ only (codes "done") (word ∷ words) is))

next_open : (pieces : List PieceValue) (lines : List LineValue) (text : List ℕ) (texts words : List (List ℕ)) → words_of text ≡ words → Next (Open pieces lines) (text ∷ texts)
next_open pieces lines text texts [] are = next_empty pieces lines text texts are
next_open pieces lines text texts (word ∷ words) are = by (bytes_eq word (codes "line")) refl (bytes_eq word (codes "evidence")) refl where
  by : (a : Bool) → bytes_eq word (codes "line") ≡ a → (b : Bool) → bytes_eq word (codes "evidence") ≡ b → Next (Open pieces lines) (text ∷ texts)
  by true e b f = next_line pieces lines text word words texts are e
  by false e true f = next_evidence pieces lines text word words texts are e f
  by false e false f = next_done pieces lines text word words texts are e f

next : (s : Stage) (texts : List (List ℕ)) → Next s texts
unfolding read_next
next Unopened [] = formless (λ pieces lines e. absurd cc) (none_at_end Unopened) (λ k. refl)
next Unopened (text ∷ texts) = next_opening text texts
next (Open pieces lines) [] = formless (λ ps ls e. absurd cc) (none_at_end (Open pieces lines)) (λ k. refl)
next (Open pieces lines) (text ∷ texts) = next_open pieces lines text texts (words_of text) refl
next (Closed pieces lines) [] = closed pieces lines refl refl
next (Closed pieces lines) (text ∷ texts) = formless_there (Closed pieces lines) text texts (λ rest back is form. form) (λ k. fails_so (Closed pieces lines) k text texts refl)

-- ---- the verdict

-- the verdict on a document is that on what is left of it at a stage
on_left : (document : List ℕ) (before left : List (List ℕ)) (s : Stage) → lines_of document ≡ before ++ left → AreReadTo before s
    → verdict_of document ≡ verdict_from (reading_of s) (suc (length before)) left
on_left document before left s is read =
    let counted : 1 + length before ≡ suc (length before) = omega arith in
    ap (verdict_from unread 1) is ∙ after_read before left unread (reading_of s) 1 (read_to before s read) ∙ ap (λ (n : ℕ). verdict_from (reading_of s) n left) counted

-- a document that is read to its close is verified
closed_verified : (document : List ℕ) (pieces : List PieceValue) (lines : List LineValue) → AreReadTo (lines_of document) (Closed pieces lines) → IsVerified document
closed_verified document pieces lines read =
    let sound = AreRead-sound (lines_of document) unread (reading_of (Closed pieces lines)) 1 (read_to (lines_of document) (Closed pieces lines) read) unread-sound in
    record {
      pieces = pieces;
      lines = lines;
      read = read;
      standing = sound.standing;
      derivation = sound.derivation;
      claims = lines_are_true (supports_of pieces) lines (supports_stand pieces sound.standing) sound.derivation;
    }

-- a verdict on the document, which is the one that is found line by line
abbrev Found : List ℕ → Type 0
Found document = (v : Verdict) × IsVerdict document v × (verdict_of document ≡ v)

-- it is found from a stage on, where it is from the next stage on
found_next : (document : List ℕ) (before left : List (List ℕ)) (s : Stage) → lines_of document ≡ before ++ left → AreReadTo before s
    → ((front back : List (List ℕ)) (t : Stage) → left ≡ front ++ back → 0 < length front → Leads s front (Ok t) → Found document) → Next s left → Found document
found_next document before left s is read later_on (closed pieces lines at none) =
    let all : lines_of document ≡ before = is ∙ ap (λ (ls : List (List ℕ)). before ++ ls) none ∙ append-nil before in
    let whole = subst (λ (ls : List (List ℕ)). AreReadTo ls (Closed pieces lines)) (sym all) (subst (AreReadTo before) at read) in
    let reads = read_to (lines_of document) (Closed pieces lines) whole in
    (Yes, closed_verified document pieces lines whole, yes_from_read (lines_of document) unread (reading_of (Closed pieces lines)) 1 reads refl)
found_next document before left s is read later_on (formless unclosed none fails) = (
  No (suc (length before)) why.Form,
  record { before = before; left = left; stage = s; divided = is; counted = refl; read = read; failing = inr (refl, unclosed, none) },
  on_left document before left s is read ∙ fails (suc (length before)),
)
found_next document before left s is read later_on (leads front back (Err w) divided some l) = (
  No (suc (length before)) w,
  record { before = before; left = left; stage = s; divided = is; counted = refl; read = read; failing = inl (front, back, divided, l) },
  on_left document before left s is read ∙ ap (verdict_from (reading_of s) (suc (length before))) divided ∙ leads-fails s front (Err w) (suc (length before)) back l,
)
found_next document before left s is read later_on (leads front back (Ok t) divided some l) = later_on front back t divided some l

found : (document : List ℕ) (fuel : ℕ) (before left : List (List ℕ)) (s : Stage) → lines_of document ≡ before ++ left → AreReadTo before s → length left ≤ fuel → Found document
found document zero before left s is read few =
    found_next document before left s is read
    (λ front back t divided some l. absurd (let size = ap length divided ∙ length-append front back in omega (arith, few, size, some))) (next s left)
found document (suc fuel) before left s is read few =
    found_next document before left s is read
    (λ front back t divided some l.
    let size = ap length divided ∙ length-append front back in
    found document fuel (before ++ front) back t (is ∙ ap (λ (ls : List (List ℕ)). before ++ ls) divided ∙ sym (append_assoc before front back)) (and_then before front s t read l)
    (omega (arith, few, size, some))) (next s left)

-- the verdict that is found line by line is the verdict on the document
pub verdict_is : (document : List ℕ) → IsVerdict document (verdict_of document)
verdict_is document =
    let (v, is, same) = found document (length (lines_of document)) [] (lines_of document) Unopened refl nothing (omega arith) in
    subst (IsVerdict document) (sym same) is

-- and there is no other
pub one_verdict : (document : List ℕ) (v : Verdict) → IsVerdict document v → verdict_of document ≡ v
one_verdict document Yes h =
    yes_from_read (lines_of document) unread (reading_of (Closed h.pieces h.lines)) 1 (read_to (lines_of document) (Closed h.pieces h.lines) h.read) refl
one_verdict document (No number reason) h = on_left document h.before h.left h.stage h.divided h.read ∙ by h.failing ∙ ap (λ (n : ℕ). No n reason) (sym h.counted) where
  k : ℕ
  k = suc (length h.before)

  formless_fails : Next h.stage h.left → ((pieces : List PieceValue) (lines : List LineValue) → h.stage ≡ Closed pieces lines → h.left ≢ [])
      → ((front back : List (List ℕ)) (o : Result Stage Why) → h.left ≡ front ++ back → Leads h.stage front o → ⊥)
      → verdict_from (reading_of h.stage) k h.left ≡ No k why.Form
  formless_fails (closed pieces lines at empty) unclosed none = absurd (unclosed pieces lines at empty)
  formless_fails (leads front back o divided some l) unclosed none = absurd (none front back o divided l)
  formless_fails (formless unclosed' none' fails) unclosed none = fails k

  by : Fails h.stage h.left reason → verdict_from (reading_of h.stage) k h.left ≡ No k reason
  by (inl (front, back, divided, l)) = ap (verdict_from (reading_of h.stage) k) divided ∙ leads-fails h.stage front (Err reason) k back l
  by (inr (form, unclosed, none)) = formless_fails (next h.stage h.left) unclosed none ∙ ap (λ (w : Why). No k w) (sym form)

-- a document whose verdict is `Yes` is verified
pub verified : (document : List ℕ) (v : Verdict) → v ≡ verdict_of document → v ≡ Yes → IsVerified document
verified document v is said = subst (IsVerdict document) (sym is ∙ said) (verdict_is document)

-- what is found line by line is the verdict
pub verdict_where_found : {E : Type 0} (document : List ℕ) (r : Result Verdict E) → IfOk r (λ v. v ≡ verdict_of document) → IfOk r (IsVerdict document)
verdict_where_found document (Ok v) h = subst (IsVerdict document) (sym h) (verdict_is document)
verdict_where_found document (Err e) h = tt
