-- The codes that are kept beside pieces, once they are made: those of builds.
use Rattle.std.specs.Prelude.{ℕ, List, [], ◌∷◌, ◌++◌, Option, None, Some, slice_index_or}
use Rattle.std.specs.List.{AllZip}
use Rattle.ct_words.specs.Code.{CodeValue}
use Rattle.ct_kind.specs.Named.{NamedCode}
use Rattle.ct_files.specs.ByKind.{kept_over}
use Rattle.ct_files.specs.Checked.{IsKept}
use Rattle.ct_piece.specs.Piece.{PieceValue, place_of_id}
use Rattle.ct_piece.specs.Codes.{named_code, code_of_place}

-- the codes that are kept, once they are made, beside pieces that stand after others, whose codes are known
abbrev pub kept_after : List NamedCode → List PieceValue → List (Option CodeValue)
kept_after known [] = []
kept_after known (p ∷ ps) = kept_over known p.evidence ∷ kept_after (known ++ named_code known p ∷ []) ps

-- the codes that are kept, once they are made, beside the pieces, each at the place of its piece
abbrev pub kept_codes : List PieceValue → List (Option CodeValue)
kept_codes pieces = kept_after [] pieces

-- so it is at each place
abbrev pub AreKept : List (Option CodeValue) → List (Option CodeValue) → Type 0
AreKept kept codes = AllZip IsKept kept codes

-- the code at a place, where there is one
abbrev pub code_there : List (Option CodeValue) → ℕ → Option CodeValue
code_there codes place = slice_index_or codes place None

-- the code of the piece at a place that was found, where one was and it has a code
abbrev pub code_found : List PieceValue → Option ℕ → Option CodeValue
code_found pieces None = None
code_found pieces (Some place) = code_of_place pieces place

-- the place of the piece of the other id, where one is named and a piece has it
abbrev pub other_place : Option (List ℕ) → List PieceValue → Option ℕ
other_place None pieces = None
other_place (Some id) pieces = place_of_id id pieces
