-- The text of a document whose lines follow a heading: up to a line `end`, or for a given number of lines.
use Rattle.std.specs.Prelude.{◌≡◌, ◌<◌, ℕ, suc, ◌-◌, Bool, true, false, ◌||◌, if◌then◌else◌, List, [], ◌∷◌, ◌++◌, All, length, take, codes}
use Rattle.std.specs.List.{join_with_byte}
use Rattle.std.specs.Str.{bytes_eq}
use Rattle.ct_text.specs.declared.document_lines.TheConstants.{LINE_FEED}
use Rattle.ct_text.specs.declared.gathering.Extent.{Extent}
use Rattle.ct_text.specs.declared.gathering.Extent.TheVariants.{ToEnd, Lines}
use Rattle.ct_text.specs.declared.gathering.Gathering.{Gathering}
use Rattle.ct_text.specs.declared.gathering.Gathered.{Gathered}
use Rattle.ct_text.specs.declared.gathering.Gathered.TheVariants.{More, Whole}

-- the line that ends a document: `end`, or `end` and one carriage return (13)
abbrev pub is_end : List ℕ → Bool
is_end line = bytes_eq line (codes "end") || bytes_eq line (codes "end" ++ 13 ∷ [])

-- the lines are a document with its end, and the text is the document: all lines but the last one, which is `end` and the only such line; or the
-- given number of lines
abbrev pub IsDocument : Extent → List (List ℕ) → List ℕ → Type 0
IsDocument ToEnd block text =
    (lines : List (List ℕ)) × (last : List ℕ) × (block ≡ lines ++ last ∷ []) × All (λ line. is_end line ≡ false) lines × (is_end last ≡ true) × (text ≡ join_with_byte LINE_FEED lines)
IsDocument (Lines count) block text = (length block ≡ count) × (text ≡ join_with_byte LINE_FEED block)

-- the lines are no whole document: none of them is `end`, or they are fewer than the given number
abbrev pub IsCutShort : Extent → List (List ℕ) → Type 0
IsCutShort ToEnd block = All (λ line. is_end line ≡ false) block
IsCutShort (Lines count) block = length block < count

-- a text without its last byte
abbrev pub less_last : List ℕ → List ℕ
less_last text = take (length text - 1) text

-- a text and one more line, with its line feed
abbrev pub with_line : List ℕ → List ℕ → List ℕ
with_line text line = text ++ line ++ LINE_FEED ∷ []

-- a document that goes to a line `end`, or for a given number of lines, after one more line: the line feed after its last line is not part of it
abbrev pub gathered_at : Extent → List ℕ → List ℕ → Gathered
gathered_at ToEnd text line = if is_end line then Whole (less_last text) else More (record { extent = ToEnd; text = with_line text line })
gathered_at (Lines (suc (suc more))) text line = More (record { extent = Lines (suc more); text = with_line text line })
gathered_at (Lines count) text line = Whole (less_last (with_line text line))

-- a document whose lines are gathered, after one more line
abbrev pub gathered : Gathering → List ℕ → Gathered
gathered g line = gathered_at g.extent g.text line
