-- The codes of the pieces that stand, each over the codes of those before it.
use Rattle.std.specs.Prelude.{ℕ, List, [], ◌∷◌, ◌++◌, Option, option_map, slice_get}
use Rattle.std.specs.Option.{option_flatten}
use Rattle.ct_words.specs.Code.{CodeValue}
use Rattle.ct_kind.specs.Named.{NamedCode}
use Rattle.ct_files.specs.ByKind.{kind_of, code_over}
use Rattle.ct_piece.specs.Piece.{PieceValue}

-- the code of a piece over these codes and the partition that it is, with its id
abbrev pub named_code : List NamedCode → PieceValue → NamedCode
named_code known p = record { id = p.id; code = code_over known p.evidence; partition = (kind_of p.evidence).partition }

-- the codes of pieces that stand after others, whose codes are known: each over the known ones and those of the pieces before it
abbrev pub codes_after : List NamedCode → List PieceValue → List NamedCode
codes_after known [] = []
codes_after known (p ∷ ps) = named_code known p ∷ codes_after (known ++ named_code known p ∷ []) ps

-- the codes of the pieces, in their order
abbrev pub codes_of : List PieceValue → List NamedCode
codes_of pieces = codes_after [] pieces

-- the code of the piece at the place, where there is one
abbrev pub code_of_place : List PieceValue → ℕ → Option CodeValue
code_of_place pieces place = option_flatten (option_map (λ k. k.code) (slice_get (codes_of pieces) place))
