-- The lines of a document, once they are put after one another.
use Rattle.std.proofs.Common.{◌≡◌, ℕ, ◌-◌, Bool, true, false, List, [], ◌∷◌, ◌++◌, length, take, refl, sym, ap, ◌∙◌, append_assoc, append-nil, length-append, arith}
use Rattle.std.specs.List.{join_with_byte, slice_split, onto_first}
use Rattle.std.proofs.lemmas.List.Splits.{slice_split-cons_yes, slice_split-cons_no}
use lib.Seq.{take-append_seam}
use Rattle.ct_text.specs.declared.document_lines.TheConstants.{LINE_FEED}
use Rattle.ct_io.specs.Lines.{lines_of, ended_lines}
use Rattle.ct_io.proofs.LinesLemmas.{is_feed, IsFilled, IsFilled-slice_split, lines_of-feed, lines_of-onto_first}
use Rattle.ct_text.specs.Gathering.{less_last, with_line}

-- a text and one more byte, without its last byte
pub front : (xs : List ℕ) (b : ℕ) → less_last (xs ++ b ∷ []) ≡ xs
front xs b =
    let both = length-append xs (b ∷ []) in
    let size : length (xs ++ b ∷ []) - 1 ≡ length xs = omega (arith, both) in
    ap (λ n. take n (xs ++ b ∷ [])) size ∙ take-append_seam xs (b ∷ [])

-- lines with their line feeds, but for the last, are the lines joined
pub joined : (line : List ℕ) (lines : List (List ℕ)) → ended_lines (line ∷ lines) ≡ join_with_byte LINE_FEED (line ∷ lines) ++ LINE_FEED ∷ []
joined line [] = append-nil (line ++ LINE_FEED ∷ [])
joined line (next ∷ lines) =
    let rest = join_with_byte LINE_FEED (next ∷ lines) in
    ap (λ text. (line ++ LINE_FEED ∷ []) ++ text) (joined next lines) ∙ append_assoc line (LINE_FEED ∷ []) (rest ++ LINE_FEED ∷ [])
    ∙ sym (append_assoc line (LINE_FEED ∷ rest) (LINE_FEED ∷ []))

-- a text, one more line and further lines, grouped both ways
pub grouped : (text line : List ℕ) (lines : List (List ℕ)) → with_line text line ++ ended_lines lines ≡ text ++ ended_lines (line ∷ lines)
grouped text line lines = ap (λ t. t ++ ended_lines lines) (append_assoc text line (LINE_FEED ∷ [])) ∙ append_assoc text (line ++ LINE_FEED ∷ []) (ended_lines lines)

onto_first-append : (b : ℕ) (parts rest : List (List ℕ)) → IsFilled parts → onto_first b (parts ++ rest) ≡ onto_first b parts ++ rest
onto_first-append b [] rest filled = absurd (let e = filled.2 in cc)
onto_first-append b (part ∷ parts) rest filled = refl

-- the lines of a document that a line feed ends are its parts between line feeds
pub lines_of-document : (document rest : List ℕ) → lines_of ((document ++ LINE_FEED ∷ []) ++ rest) ≡ slice_split is_feed document ++ lines_of rest
lines_of-document [] rest = lines_of-feed LINE_FEED rest refl
lines_of-document (b ∷ bs) rest = first (is_feed b) refl (lines_of-document bs rest) where
  more : List ℕ
  more = (bs ++ LINE_FEED ∷ []) ++ rest

  first : (t : Bool) → is_feed b ≡ t → lines_of more ≡ slice_split is_feed bs ++ lines_of rest → lines_of (b ∷ more) ≡ slice_split is_feed (b ∷ bs) ++ lines_of rest
  first true e h =
      lines_of-feed b more e ∙ ap (λ ls. [] ∷ ls) h ∙ ap (λ parts. parts ++ lines_of rest) (sym (slice_split-cons_yes is_feed b bs e))
  first false e h =
      lines_of-onto_first b more e ∙ ap (onto_first b) h ∙ onto_first-append b (slice_split is_feed bs) (lines_of rest) (IsFilled-slice_split bs)
      ∙ ap (λ parts. parts ++ lines_of rest) (sym (slice_split-cons_no is_feed b bs e))

-- the dump of a piece and what follows it, grouped both ways
pub regrouped : (heading document rest : List ℕ) → (((heading ++ LINE_FEED ∷ []) ++ document) ++ LINE_FEED ∷ []) ++ rest ≡ heading ++ LINE_FEED ∷ ((document ++ LINE_FEED ∷ []) ++ rest)
regrouped heading document rest =
    append_assoc ((heading ++ LINE_FEED ∷ []) ++ document) (LINE_FEED ∷ []) rest
    ∙ append_assoc (heading ++ LINE_FEED ∷ []) document (LINE_FEED ∷ rest)
    ∙ append_assoc heading (LINE_FEED ∷ []) (document ++ LINE_FEED ∷ rest)
    ∙ ap (λ t. heading ++ LINE_FEED ∷ t) (sym (append_assoc document (LINE_FEED ∷ []) rest))
