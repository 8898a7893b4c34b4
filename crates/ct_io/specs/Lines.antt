-- The lines of an input.
use Rattle.std.specs.Prelude.{◌≡◌, ◌≢◌, ℕ, List, [], ◌∷◌, ◌++◌, ◌==◌, ◌⊎◌, All}
use Rattle.std.specs.List.{slice_split, flat_map}
use Rattle.ct_text.specs.declared.document_lines.TheConstants.{LINE_FEED}

-- the parts, less a last one that is empty
abbrev pub less_empty_last : List (List ℕ) → List (List ℕ)
less_empty_last [] = []
less_empty_last ([] ∷ []) = []
less_empty_last (part ∷ parts) = part ∷ less_empty_last parts

-- the lines of an input: its parts between line feeds, less a last part that is empty
abbrev pub lines_of : List ℕ → List (List ℕ)
lines_of input = less_empty_last (slice_split (λ b. b == LINE_FEED) input)

-- the bytes of a line: none of them is a line feed
abbrev pub IsLine : List ℕ → Type 0
IsLine line = All (λ b. b ≢ LINE_FEED) line

-- the lines, each with a line feed after it
abbrev pub ended_lines : List (List ℕ) → List ℕ
ended_lines lines = flat_map (λ line. line ++ LINE_FEED ∷ []) lines

-- the input is the lines, each with a line feed after it, but for a last line that isn't empty, which may have none
abbrev pub AreLines : List ℕ → List (List ℕ) → Type 0
AreLines input lines =
    All IsLine lines × ((input ≡ ended_lines lines)
    ⊎ ((front : List (List ℕ)) × (last : List ℕ) × (lines ≡ front ++ last ∷ []) × (last ≢ []) × (input ≡ ended_lines front ++ last)))

-- `line` is the next line of the bytes `before`, up to a line feed or, where it isn't empty, to the end, and `after` is what follows
abbrev pub IsNextLine : List ℕ → List ℕ → List ℕ → Type 0
IsNextLine before line after =
    IsLine line × ((before ≡ line ++ LINE_FEED ∷ after) ⊎ ((before ≡ line) × (line ≢ []) × (after ≡ [])))

-- the parts, less the last
abbrev pub less_last_part : List (List ℕ) → List (List ℕ)
less_last_part [] = []
less_last_part (part ∷ []) = []
less_last_part (part ∷ next ∷ parts) = part ∷ less_last_part (next ∷ parts)

-- the whole lines of bytes: those that a line feed ends
abbrev pub whole_lines : List ℕ → List (List ℕ)
whole_lines bytes = less_last_part (slice_split (λ b. b == LINE_FEED) bytes)
