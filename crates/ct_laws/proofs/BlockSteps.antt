-- Printed blocks of evidence are read, and their pieces accepted.
use Rattle.std.proofs.Common.{◌≡◌, ℕ, zero, suc, ◌+◌, ◌^◌, ◌<◌, ◌≤◌, Bool, true, cond, List, [], ◌∷◌, ◌++◌, length, Option, Some, None, Ok, refl, sym, ap, subst, ◌∙◌, append_assoc, append-nil, arith, codes}
use Rattle.std.specs.Prelude.{All}
use Rattle.std.specs.List.{join_with_byte, slice_split, flat_map}
use Rattle.std.specs.Fmt.{decimal}
use Rattle.std.proofs.lemmas.List.Elements.{All-head, All-tail}
use Rattle.std.proofs.lemmas.List.Splits.{length-slice_split, join_with_byte-slice_split}
use Rattle.std.proofs.lemmas.List.Sums.{count_by-le-length}
use Rattle.ct_text.specs.declared.document_lines.TheConstants.{LINE_FEED}
use Rattle.ct_io.specs.Lines.{lines_of, ended_lines}
use Rattle.ct_io.proofs.LinesLemmas.{is_feed, IsFilled, IsFilled-slice_split, lines_of-next}
use Rattle.ct_names.specs.Id.{is_id}
use Rattle.ct_text.specs.Number.{spaced}
use Rattle.ct_text.specs.Gathering.{less_last, with_line}
use Rattle.ct_text.specs.DocumentLines.{line_count}
use Rattle.ct_text.specs.declared.gathering.Extent.TheVariants.{Lines}
use Rattle.ct_text.proofs.Decimals.{printed_is_read}
use Rattle.ct_fields.specs.declared.document.TheConstants.{MAX_DOCUMENT}
use Rattle.ct_piece.specs.Piece.{PieceValue}
use Rattle.ct_piece.specs.Submission.{submitted}
use Rattle.ct_piece.specs.Standing.{AreStanding}
use Rattle.ct_commands.proofs.DocumentLines.{front, joined, grouped, lines_of-document, regrouped}
use Rattle.ct_piece.proofs.Accepting.{made_again}
use Rattle.ct_piece.proofs.StandingLemmas.{submitted-from}
use Rattle.ct_derive.specs.Text.{evidence_text}
use Rattle.ct_verify.specs.Heading.{lines_extent, heading_with, heading_of}
use Rattle.ct_verify.specs.Inside.Read.{ReadingValue}
use Rattle.ct_verify.specs.Inside.Reading.{after_block, read_heading, read_body, read_next}
use Rattle.ct_verify.specs.Inside.Verdict.{verdict_after, verdict_from}
use Rattle.ct_verify.specs.declared.part.Part.TheVariants as part
use Rattle.ct_verify.specs.Inside.Step.{AfterLine, On}
use Rattle.ct_commands.proofs.SpacedWords.{AreWords, spaced_words, known_word, decimal_word, id_is_word, IsLine-words, words_again}
use Rattle.ct_laws.proofs.LineSteps.{IsVerified, in_body, next_verified}

-- where a block is open under the id, which began on this line and wants so many lines more
abbrev in_block : List PieceValue → ℕ → List ℕ → ℕ → List ℕ → ReadingValue
in_block pieces begun id count text =
    record { pieces = pieces; lines = []; part = part.Evidence (record { line = begun; id = id; document = record { extent = Lines count; text = text } }) }

-- the lines of the block, and what follows them
block_verified : (pieces : List PieceValue) (begun : ℕ) (id text first : List ℕ) (document rest : List (List ℕ)) (p : PieceValue)
    → submitted pieces id (less_last (text ++ ended_lines (first ∷ document))) ≡ Ok p → IsVerified (in_body (pieces ++ p ∷ []) []) rest
    → IsVerified (in_block pieces begun id (length document + 1) text) (first ∷ document ++ rest)
unfolding read_next
block_verified pieces begun id text first [] rest p made later =
    next_verified (in_block pieces begun id 1 text) (in_body (pieces ++ p ∷ []) []) first rest
    (λ k.
    ap (λ t. after_block (in_block pieces begun id 1 text) begun (submitted pieces id (less_last t))) (sym (append-nil (with_line text first)) ∙ grouped text first [])
    ∙ ap (after_block (in_block pieces begun id 1 text) begun) made)
    later
block_verified pieces begun id text first (second ∷ document) rest p made later =
    let count : length (second ∷ document) + 1 ≡ suc (suc (length document)) = omega arith in
    let less : suc (length document) ≡ length document + 1 = omega arith in
    let more = with_line text first in
    let same : submitted pieces id (less_last (more ++ ended_lines (second ∷ document))) ≡ Ok p =
    ap (λ t. submitted pieces id (less_last t)) (grouped text first (second ∷ document)) ∙ made in
    subst (λ n. IsVerified (in_block pieces begun id n text) (first ∷ second ∷ document ++ rest)) (sym count)
    (next_verified (in_block pieces begun id (suc (suc (length document))) text) (in_block pieces begun id (suc (length document)) more) first (second ∷ document ++ rest) (λ k. refl)
    (subst (λ n. IsVerified (in_block pieces begun id n more) (second ∷ document ++ rest)) (sym less)
    (block_verified pieces begun id more second document rest p same later)))

whole_block : (pieces : List PieceValue) (begun : ℕ) (id : List ℕ) (document rest : List (List ℕ)) (p : PieceValue) → IsFilled document
    → submitted pieces id (join_with_byte LINE_FEED document) ≡ Ok p → IsVerified (in_body (pieces ++ p ∷ []) []) rest
    → IsVerified (in_block pieces begun id (length document) []) (document ++ rest)
whole_block pieces begun id [] rest p filled made later = absurd (let e = filled.2 in cc)
whole_block pieces begun id (first ∷ document) rest p filled made later =
    let count : length document + 1 ≡ length (first ∷ document) = omega arith in
    let text : submitted pieces id (less_last (ended_lines (first ∷ document))) ≡ Ok p =
    ap (λ t. submitted pieces id (less_last t)) (joined first document)
    ∙ ap (λ t. submitted pieces id t) (front (join_with_byte LINE_FEED (first ∷ document)) LINE_FEED) ∙ made in
    subst (λ n. IsVerified (in_block pieces begun id n []) (first ∷ document ++ rest)) count
    (block_verified pieces begun id [] first document rest p text later)

-- the words of a heading
abbrev heading_parts : List ℕ → ℕ → List (List ℕ)
heading_parts id count = id ∷ codes "lines" ∷ decimal count ∷ []

abbrev heading : List ℕ → ℕ → List ℕ
heading id count = codes "evidence " ++ id ++ codes " lines" ++ spaced count

heading-words : (id : List ℕ) (count : ℕ) → heading id count ≡ codes "evidence" ++ spaced_words (heading_parts id count)
heading-words id count =
    append_assoc (codes "evidence " ++ id) (codes " lines") (spaced count)
    ∙ append_assoc (codes "evidence ") id (codes " lines" ++ spaced count)
    ∙ ap (λ t. codes "evidence " ++ (id ++ (codes " lines" ++ t))) (sym (append-nil (spaced count)))

extent_read : (count : ℕ) → 0 < count → lines_extent (Some count) ≡ Some (Lines count)
extent_read zero some = absurd (omega arith)
extent_read (suc count) some = refl

heading_read : (id : List ℕ) (count : ℕ) → is_id id ≡ true → 0 < count → count < 2 ^ 64 → heading_of (heading_parts id count) ≡ Some (record { id = id; extent = Lines count })
heading_read id count named some small =
    ap (λ (n : Option ℕ). heading_with id (lines_extent n)) (printed_is_read (decimal count) count small refl)
    ∙ ap (heading_with id) (extent_read count some)
    ∙ ap (λ (b : Bool). cond b (Some (record { id = id; extent = Lines count })) None) named

heading_words-are : (id : List ℕ) (count : ℕ) → is_id id ≡ true → count < 2 ^ 64 → AreWords (heading_parts id count)
heading_words-are id count named small = (id_is_word id named, (known_word (codes "lines") refl, (decimal_word count small, tt)))

-- after a heading its block is open
heading_step : (pieces : List PieceValue) (id : List ℕ) (count k : ℕ) → is_id id ≡ true → 0 < count → count < 2 ^ 64
    → read_next (in_body pieces []) k (codes "evidence" ++ spaced_words (heading_parts id count)) ≡ On (in_block pieces k id count [])
unfolding read_next
heading_step pieces id count k named some small =
    let r = in_body pieces [] in
    ap (read_body r k) (words_again (codes "evidence") (heading_parts id count) (known_word (codes "evidence") refl) (heading_words-are id count named small))
    ∙ ap (read_heading r k) (heading_read id count named some small)

-- one printed block, and what follows it
pub piece_verified : (pieces : List PieceValue) (p : PieceValue) (rest : List ℕ) → is_id p.id ≡ true → length p.document ≤ MAX_DOCUMENT → submitted pieces p.id p.document ≡ Ok p
    → IsVerified (in_body (pieces ++ p ∷ []) []) (lines_of rest) → IsVerified (in_body pieces []) (lines_of (evidence_text p.id p.document ++ rest))
piece_verified pieces p rest named short made later =
    let count = line_count p.document in
    let feeds = count_by-le-length is_feed p.document in
    let some : 0 < count = omega arith in
    let small : count < 2 ^ 64 = omega (arith, short, feeds) in
    let parts = heading_parts p.id count in
    let line : List ℕ = codes "evidence" ++ spaced_words parts in
    let evidence = known_word (codes "evidence") refl in
    let are = heading_words-are p.id count named small in
    let document = slice_split is_feed p.document in
    let text : lines_of (evidence_text p.id p.document ++ rest) ≡ line ∷ (document ++ lines_of rest) =
    ap lines_of (regrouped (heading p.id count) p.document rest)
    ∙ ap (λ t. lines_of (t ++ LINE_FEED ∷ ((p.document ++ LINE_FEED ∷ []) ++ rest))) (heading-words p.id count)
    ∙ lines_of-next line ((p.document ++ LINE_FEED ∷ []) ++ rest) (IsLine-words (codes "evidence") parts evidence are)
    ∙ ap (λ ls. line ∷ ls) (lines_of-document p.document rest) in
    let joined_again : submitted pieces p.id (join_with_byte LINE_FEED document) ≡ Ok p =
    ap (submitted pieces p.id) (join_with_byte-slice_split LINE_FEED p.document) ∙ made in
    subst (IsVerified (in_body pieces [])) (sym text)
    (λ k.
    ap (λ (s : AfterLine). verdict_after s (λ n. verdict_from n (k + 1) (document ++ lines_of rest))) (heading_step pieces p.id count k named some small)
    ∙ subst (λ n. IsVerified (in_block pieces k p.id n []) (document ++ lines_of rest)) (length-slice_split is_feed p.document)
    (whole_block pieces k p.id document (lines_of rest) p (IsFilled-slice_split p.document) joined_again later) (k + 1))

-- the documents of the pieces are within the limit on bytes
abbrev pub AreShort : List PieceValue → Type 0
AreShort pieces = All (λ (p : PieceValue). length p.document ≤ MAX_DOCUMENT) pieces

abbrev pub AreNamed : List PieceValue → Type 0
AreNamed pieces = All (λ (p : PieceValue). is_id p.id ≡ true) pieces

-- the printed blocks of pieces that stand after others
pub pieces_verified : (before after : List PieceValue) (rest : List ℕ) → AreStanding (before ++ after) → AreNamed after → AreShort after
    → IsVerified (in_body (before ++ after) []) (lines_of rest)
    → IsVerified (in_body before []) (lines_of (flat_map (λ p. evidence_text p.id p.document) after ++ rest))
pieces_verified before [] rest h named short later = subst (λ (ps : List PieceValue). IsVerified (in_body ps []) (lines_of rest)) (append-nil before) later
pieces_verified before (p ∷ after) rest h named short later =
    let same = append_assoc before (p ∷ []) after in
    let few = All-head (λ (q : PieceValue). length q.document ≤ MAX_DOCUMENT) p after short in
    let made = submitted-from before p.id p.document p (made_again before p after h few) in
    let more : List ℕ = flat_map (λ q. evidence_text q.id q.document) after in
    subst (λ t. IsVerified (in_body before []) (lines_of t)) (sym (append_assoc (evidence_text p.id p.document) more rest))
    (piece_verified before p (more ++ rest) (All-head (λ (q : PieceValue). is_id q.id ≡ true) p after named) few made
    (pieces_verified (before ++ p ∷ []) after rest (subst AreStanding (sym same) h) (All-tail (λ (q : PieceValue). is_id q.id ≡ true) p after named)
    (All-tail (λ (q : PieceValue). length q.document ≤ MAX_DOCUMENT) p after short)
    (subst (λ (ps : List PieceValue). IsVerified (in_body ps []) (lines_of rest)) (sym same) later)))
