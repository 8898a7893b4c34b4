-- The lines of an input: one more byte or line at its front, and what the lines make up.
use Rattle.std.proofs.Common.{◌≡◌, ◌≢◌, ℕ, zero, suc, replicate, Bool, true, false, cond, List, [], ◌∷◌, ◌++◌, inl, inr, refl, sym, subst, ap, ◌∙◌, eqb, append_assoc}
use Rattle.std.specs.List.{slice_split, onto_first, All}
use Rattle.std.proofs.lemmas.Bool.{eqb-true, eqb-false, ne_eqb}
use Rattle.std.proofs.lemmas.List.Elements.{All-nil, All-cons, All-head, All-tail, All-weaker}
use Rattle.std.proofs.lemmas.List.Splits.{slice_split_none, slice_split_at, slice_split-cons_yes, slice_split-cons_no}
use Rattle.ct_text.specs.declared.document_lines.TheConstants.{LINE_FEED}
use Rattle.ct_io.specs.Lines.{less_empty_last, lines_of, IsLine, ended_lines, AreLines, IsNextLine, less_last_part, whole_lines}

-- whether a byte ends a line
abbrev pub is_feed : ℕ → Bool
is_feed b = eqb b LINE_FEED

-- no byte of a line ends one
pub no_feed : (line : List ℕ) → IsLine line → All (λ b. is_feed b ≡ false) line
no_feed line h = All-weaker (λ b. b ≢ LINE_FEED) (λ b. is_feed b ≡ false) (λ b n. ne_eqb b LINE_FEED n) line h

-- some list has an element
abbrev pub IsFilled : List (List ℕ) → Type 0
IsFilled parts = (part : List ℕ) × (others : List (List ℕ)) × (parts ≡ part ∷ others)

IsFilled-onto_first : (b : ℕ) (parts : List (List ℕ)) → IsFilled (onto_first b parts)
IsFilled-onto_first b [] = (b ∷ [], [], refl)
IsFilled-onto_first b (part ∷ parts) = (b ∷ part, parts, refl)

IsFilled-cond : (t : Bool) (xs ys : List (List ℕ)) → IsFilled xs → IsFilled ys → IsFilled (cond t xs ys)
IsFilled-cond true xs ys p q = p
IsFilled-cond false xs ys p q = q

-- there is always a part
pub IsFilled-slice_split : (bs : List ℕ) → IsFilled (slice_split is_feed bs)
IsFilled-slice_split [] = ([], [], refl)
IsFilled-slice_split (b ∷ bs) =
    IsFilled-cond (is_feed b) ([] ∷ slice_split is_feed bs) (onto_first b (slice_split is_feed bs)) ([], slice_split is_feed bs, refl) (IsFilled-onto_first b (slice_split is_feed bs))

-- a part before others is not the last
less_empty_last-before : (part : List ℕ) (parts : List (List ℕ)) → IsFilled parts → less_empty_last (part ∷ parts) ≡ part ∷ less_empty_last parts
less_empty_last-before [] parts h = rw h.2 refl
less_empty_last-before (b ∷ part) parts h = refl

less_empty_last-onto_first : (b : ℕ) (parts : List (List ℕ)) → IsFilled parts → less_empty_last (onto_first b parts) ≡ onto_first b (less_empty_last parts)
less_empty_last-onto_first b [] h = refl
less_empty_last-onto_first b ([] ∷ []) h = refl
less_empty_last-onto_first b ([] ∷ part ∷ parts) h = refl
less_empty_last-onto_first b ((c ∷ cs) ∷ parts) h = refl

-- a line feed at the front is an empty line
pub lines_of-feed : (b : ℕ) (bs : List ℕ) → is_feed b ≡ true → lines_of (b ∷ bs) ≡ [] ∷ lines_of bs
lines_of-feed b bs e =
    ap less_empty_last (slice_split-cons_yes is_feed b bs e) ∙ less_empty_last-before [] (slice_split is_feed bs) (IsFilled-slice_split bs)

-- another byte goes onto the first line
pub lines_of-onto_first : (b : ℕ) (bs : List ℕ) → is_feed b ≡ false → lines_of (b ∷ bs) ≡ onto_first b (lines_of bs)
lines_of-onto_first b bs e =
    ap less_empty_last (slice_split-cons_no is_feed b bs e) ∙ less_empty_last-onto_first b (slice_split is_feed bs) (IsFilled-slice_split bs)

-- a line and its line feed at the front are one more line
pub lines_of-next : (line rest : List ℕ) → IsLine line → lines_of (line ++ LINE_FEED ∷ rest) ≡ line ∷ lines_of rest
lines_of-next line rest h =
    ap less_empty_last (slice_split_at is_feed line LINE_FEED rest (no_feed line h) refl)
    ∙ less_empty_last-before line (slice_split is_feed rest) (IsFilled-slice_split rest)

less_empty_last-single : (line : List ℕ) → line ≢ [] → less_empty_last (line ∷ []) ≡ line ∷ []
less_empty_last-single [] h = absurd (h refl)
less_empty_last-single (b ∷ bs) h = refl

-- a last line without a line feed is a line
pub lines_of-last : (line : List ℕ) → IsLine line → line ≢ [] → lines_of line ≡ line ∷ []
lines_of-last line h some = ap less_empty_last (slice_split_none is_feed line (no_feed line h)) ∙ less_empty_last-single line some

-- taking the next line takes the first of the lines
pub lines_of-from_next : (before line after : List ℕ) → IsNextLine before line after → lines_of before ≡ line ∷ lines_of after
lines_of-from_next before line after h =
    elim h.1 [
      | inl e ↦ ap lines_of e ∙ lines_of-next line after h.0
      | inr e ↦ ap lines_of e.0 ∙ lines_of-last line h.0 e.1 ∙ ap (λ l. line ∷ lines_of l) (sym e.2)
    ]

AreLines-feed : (b : ℕ) (bs : List ℕ) (lines : List (List ℕ)) → b ≡ LINE_FEED → AreLines bs lines → AreLines (b ∷ bs) ([] ∷ lines)
AreLines-feed b bs lines e h = (
  All-cons IsLine [] lines (All-nil (λ c. c ≢ LINE_FEED)) h.0,
  elim h.1 [
    | inl same ↦ inl (ap (λ c. c ∷ bs) e ∙ ap (λ l. LINE_FEED ∷ l) same)
    | inr same ↦ inr ([] ∷ same.0, same.1, ap (λ l. [] ∷ l) same.2, same.3, ap (λ c. c ∷ bs) e ∙ ap (λ l. LINE_FEED ∷ l) same.4)
  ],
)

-- the last line has no line feed
abbrev pub IsOpen : List ℕ → List (List ℕ) → Type 0
IsOpen input lines = (front : List (List ℕ)) × (last : List ℕ) × (lines ≡ front ++ last ∷ []) × (last ≢ []) × (input ≡ ended_lines front ++ last)

filled : (b : ℕ) (bs : List ℕ) → (b ∷ bs) ≢ []
filled b bs e = cc

IsOpen-onto_first : (b : ℕ) (bs line : List ℕ) (lines front : List (List ℕ)) (last : List ℕ) → (line ∷ lines) ≡ front ++ last ∷ [] → last ≢ [] → bs ≡ ended_lines front ++ last
    → IsOpen (b ∷ bs) ((b ∷ line) ∷ lines)
IsOpen-onto_first b bs line lines [] last same some e = ([], b ∷ last, cc, filled b last, ap (λ l. b ∷ l) e)
IsOpen-onto_first b bs line lines (first ∷ front) last same some e = ((b ∷ first) ∷ front, last, cc, some, ap (λ l. b ∷ l) e)

AreLines-onto_first : (b : ℕ) (bs : List ℕ) (lines : List (List ℕ)) → b ≢ LINE_FEED → AreLines bs lines → AreLines (b ∷ bs) (onto_first b lines)
AreLines-onto_first b bs [] n h = (
  All-cons IsLine (b ∷ []) [] (All-cons (λ c. c ≢ LINE_FEED) b [] n (All-nil (λ c. c ≢ LINE_FEED))) (All-nil IsLine),
  elim h.1 [
    | inl same ↦ inr ([], b ∷ [], refl, filled b [], ap (λ l. b ∷ l) same)
    | inr same ↦ absurd (none same.0 same.1 same.2)
  ],
)
  where
    none : (front : List (List ℕ)) (last : List ℕ) → [] ≡ front ++ last ∷ [] → ⊥
    none [] last e = cc
    none (first ∷ front) last e = cc
AreLines-onto_first b bs (line ∷ lines) n h = (
  All-cons IsLine (b ∷ line) lines (All-cons (λ c. c ≢ LINE_FEED) b line n (All-head IsLine line lines h.0)) (All-tail IsLine line lines h.0),
  elim h.1 [
    | inl same ↦ inl (ap (λ l. b ∷ l) same)
    | inr same ↦ inr (IsOpen-onto_first b bs line lines same.0 same.1 same.2 same.3 same.4)
  ],
)

first_byte : (b : ℕ) (bs : List ℕ) → AreLines bs (lines_of bs) → (t : Bool) → is_feed b ≡ t → AreLines (b ∷ bs) (lines_of (b ∷ bs))
first_byte b bs h true e =
    subst (AreLines (b ∷ bs)) (sym (lines_of-feed b bs e)) (AreLines-feed b bs (lines_of bs) (eqb-true b LINE_FEED e) h)
first_byte b bs h false e =
    subst (AreLines (b ∷ bs)) (sym (lines_of-onto_first b bs e)) (AreLines-onto_first b bs (lines_of bs) (eqb-false b LINE_FEED e) h)

-- the lines are what the input is made of
pub AreLines-lines_of : (input : List ℕ) → AreLines input (lines_of input)
AreLines-lines_of [] = (All-nil IsLine, inl refl)
AreLines-lines_of (b ∷ bs) = first_byte b bs (AreLines-lines_of bs) (is_feed b) refl

-- one more part at the front, where there is one already
less_last_part-cons : (part : List ℕ) (parts : List (List ℕ)) → IsFilled parts → less_last_part (part ∷ parts) ≡ part ∷ less_last_part parts
less_last_part-cons part [] h = absurd (let e = h.2 in cc)
less_last_part-cons part (next ∷ parts) h = refl

-- a line that a line feed ends is the first whole line
whole_lines-next : (line rest : List ℕ) → IsLine line → whole_lines (line ++ LINE_FEED ∷ rest) ≡ line ∷ whole_lines rest
whole_lines-next line rest h =
    ap less_last_part (slice_split_at is_feed line LINE_FEED rest (no_feed line h) refl) ∙ less_last_part-cons line (slice_split is_feed rest) (IsFilled-slice_split rest)

-- lines that line feeds end, and a part of a line after them
pub whole_lines-ended : (lines : List (List ℕ)) (tail : List ℕ) → All IsLine lines → IsLine tail → whole_lines (ended_lines lines ++ tail) ≡ lines
whole_lines-ended [] tail h t = ap less_last_part (slice_split_none is_feed tail (no_feed tail t))
whole_lines-ended (line ∷ lines) tail h t =
    let rest = ended_lines lines ++ tail in
    ap whole_lines (append_assoc (line ++ LINE_FEED ∷ []) (ended_lines lines) tail ∙ append_assoc line (LINE_FEED ∷ []) rest)
    ∙ whole_lines-next line rest (All-head IsLine line lines h) ∙ ap (λ ls. line ∷ ls) (whole_lines-ended lines tail (All-tail IsLine line lines h) t)

-- empty lines that come first, as line feeds and as lines
pub lines_of-feeds : (count : ℕ) (rest : List ℕ) → lines_of (replicate count LINE_FEED ++ rest) ≡ replicate count [] ++ lines_of rest
lines_of-feeds zero rest = refl
lines_of-feeds (suc count) rest = lines_of-feed LINE_FEED (replicate count LINE_FEED ++ rest) refl ∙ ap (λ ls. [] ∷ ls) (lines_of-feeds count rest)

pub ended_lines-feeds : (count : ℕ) → ended_lines (replicate count []) ≡ replicate count LINE_FEED
ended_lines-feeds zero = refl
ended_lines-feeds (suc count) = ap (λ bs. LINE_FEED ∷ bs) (ended_lines-feeds count)

pub IsLine-empty : (count : ℕ) → All IsLine (replicate count [])
IsLine-empty zero = All-nil IsLine
IsLine-empty (suc count) = All-cons IsLine [] (replicate count []) (All-nil (λ c. c ≢ LINE_FEED)) (IsLine-empty count)
