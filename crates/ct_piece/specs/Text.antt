-- The texts of refused withdrawals and of the lines of a ledger.
use Rattle.std.specs.Prelude.{ℕ, List, [], ◌∷◌, ◌++◌, length, Option, Some, None, codes}
use Rattle.ct_text.specs.Number.{spaced}
use Rattle.ct_text.specs.EntryText.{entry_words}
use Rattle.ct_files.specs.ByKind.{kind_of}
use Rattle.ct_piece.specs.Piece.{PieceValue}
use Rattle.ct_piece.specs.declared.fault.WithdrawFault.{WithdrawFault}
use Rattle.ct_piece.specs.declared.fault.WithdrawFault.TheVariants as withdraw

-- why the piece of this id is not withdrawn; want of memory has no text
abbrev pub withdraw_fault_text : List ℕ → WithdrawFault → List ℕ
withdraw_fault_text id withdraw.NoSuch = codes "nosuch " ++ id
withdraw_fault_text id (withdraw.InUse user) = codes "inuse " ++ user
withdraw_fault_text id withdraw.Memory = []

-- a size, where there is one
abbrev pub size_text : Option ℕ → List ℕ
size_text None = []
size_text (Some size) = codes " size" ++ spaced size

-- how many texts a piece cites, where it cites one
abbrev pub cites_text : List (List ℕ) → List ℕ
cites_text [] = []
cites_text (cite ∷ cites) = codes " cites" ++ spaced (length (cite ∷ cites))

-- the line of a piece: ID KIND ENTRY, its size where it has one, and how many texts it cites where it cites one
abbrev pub piece_text : PieceValue → List ℕ
piece_text p = p.id ++ codes " " ++ (kind_of p.evidence).text ++ codes " " ++ entry_words p.entry ++ size_text p.size ++ cites_text p.cites
