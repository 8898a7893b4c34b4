-- What a withdrawal leaves of the pieces, or why it takes none out.
use Rattle.std.specs.Prelude.{◌≡◌, ℕ, Bool, true, not, if◌then◌else◌, List, [], ◌∷◌, ◌++◌, filter, map, slice_get, Option, Some, None, Result, Ok, Err}
use Rattle.std.specs.List.{list_any}
use Rattle.std.specs.Str.{bytes_eq}
use Rattle.ct_files.specs.ByKind.{names}
use Rattle.ct_piece.specs.Piece.{PieceValue, has_id, first_user}
use Rattle.ct_piece.specs.declared.fault.WithdrawFault.{WithdrawFault}
use Rattle.ct_piece.specs.declared.fault.WithdrawFault.TheVariants as fault

-- the pieces but for those with the id, in their order
abbrev pub without : List ℕ → List PieceValue → List PieceValue
without id pieces = filter (λ p. not (bytes_eq p.id id)) pieces

-- what is left where no piece names the id
abbrev pub unless_used : Option PieceValue → List PieceValue → Result (List PieceValue) WithdrawFault
unless_used None rest = Ok rest
unless_used (Some user) rest = Err (fault.InUse user.id)

-- what a withdrawal leaves: the other pieces in their order, where a piece has the id and none names it
unfoldable pub withdrawn : List PieceValue → List ℕ → Result (List PieceValue) WithdrawFault
withdrawn pieces id = if has_id id pieces then unless_used (first_user id pieces) (without id pieces) else Err fault.NoSuch

-- the pieces after a withdrawal
abbrev pub left_by : List PieceValue → Result (List PieceValue) WithdrawFault → List PieceValue
left_by pieces (Ok rest) = rest
left_by pieces (Err reason) = pieces

-- the piece at a place goes where the piece of the id is withdrawn with all that rests on it: it is that piece, or it names one that goes
pub data IsTakenAlong (pieces : List PieceValue) (id : List ℕ) : ℕ → Type 0 where
  itself : (i : ℕ) (p : PieceValue) → slice_get pieces i ≡ Some p → p.id ≡ id → IsTakenAlong pieces id i
  by_part : (i j : ℕ) (p q : PieceValue) → slice_get pieces i ≡ Some p → slice_get pieces j ≡ Some q → names p.evidence q.id ≡ true
      → IsTakenAlong pieces id j → IsTakenAlong pieces id i

-- whether a piece names one of the ids as a part
abbrev pub names_any : List (List ℕ) → PieceValue → Bool
names_any ids p = list_any (λ id. names p.evidence id) ids

-- the ids, and those of the pieces that name one of them or of those before, one piece after the other
abbrev pub ids_along : List (List ℕ) → List PieceValue → List (List ℕ)
ids_along ids [] = ids
ids_along ids (p ∷ ps) = ids_along (if names_any ids p then ids ++ p.id ∷ [] else ids) ps

-- the ids of the pieces that go with the piece of the id: its own, and those of all that rest on it, in the order of the pieces
abbrev pub taken_along : List PieceValue → List ℕ → List (List ℕ)
taken_along pieces id = ids_along (id ∷ []) pieces

-- whether an id is one of these
abbrev pub is_id_among : List (List ℕ) → List ℕ → Bool
is_id_among ids id = list_any (λ i. bytes_eq i id) ids

-- the pieces but for those with these ids, in their order
abbrev pub without_all : List (List ℕ) → List PieceValue → List PieceValue
without_all ids pieces = filter (λ p. not (is_id_among ids p.id)) pieces

-- what a withdrawal with all that rests on a piece leaves: the other pieces in their order, where a piece has the id
unfoldable pub withdrawn_all : List PieceValue → List ℕ → Result (List PieceValue) WithdrawFault
withdrawn_all pieces id = if has_id id pieces then Ok (without_all (taken_along pieces id) pieces) else Err fault.NoSuch

-- for each piece, whether it goes with the piece of the id
abbrev pub marks_along : List PieceValue → List ℕ → List Bool
marks_along pieces id = map (λ p. is_id_among (taken_along pieces id) p.id) pieces
