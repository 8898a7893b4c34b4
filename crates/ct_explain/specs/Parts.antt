-- The parts of pieces, as places.
use Rattle.std.specs.Prelude.{ℕ, ◌+◌, Bool, if◌then◌else◌, List, [], ◌∷◌, map}
use Rattle.ct_files.specs.ByKind.{names}
use Rattle.ct_piece.specs.Piece.{PieceValue}

-- the places of the items for which the test holds, where the first stands at this place
abbrev pub places_where : {X : Type 0} → (X → Bool) → ℕ → List X → List ℕ
places_where test k [] = []
places_where test k (x ∷ xs) = if test x then k ∷ places_where test (k + 1) xs else places_where test (k + 1) xs

-- the places of the pieces whose ids a piece names: its parts
abbrev pub part_places : List PieceValue → PieceValue → List ℕ
part_places pieces p = places_where (λ q. names p.evidence q.id) 0 pieces

-- the places of the parts of each of the pieces
abbrev pub parts_of_each : List PieceValue → List (List ℕ)
parts_of_each pieces = map (part_places pieces) pieces
