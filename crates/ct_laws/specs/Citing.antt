-- Pieces by what they cite.
use Rattle.std.specs.Prelude.{ℕ, List, [], map, Result, Ok, Err}
use Rattle.ct_kind.specs.declared.fault.SubmitFault.{SubmitFault}
use Rattle.ct_piece.specs.Piece.{PieceValue}

-- a piece with another document, which cites other texts
abbrev pub recited : List ℕ → List (List ℕ) → PieceValue → PieceValue
recited document cites p = record { id = p.id; document = document; evidence = p.evidence; cites = cites; entry = p.entry; size = p.size }

-- what a submission makes, with another document
abbrev pub made_recited : List ℕ → List (List ℕ) → Result PieceValue SubmitFault → Result PieceValue SubmitFault
made_recited document cites (Ok p) = Ok (recited document cites p)
made_recited document cites (Err reason) = Err reason

-- pieces as if they cited nothing
abbrev pub uncited : List PieceValue → List PieceValue
uncited pieces = map (λ p. recited p.document [] p) pieces
