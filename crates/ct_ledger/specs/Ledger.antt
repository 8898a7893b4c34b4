-- A ledger.
use Rattle.std.specs.Prelude.{ℕ, List}
use Rattle.ct_piece.specs.Piece.{PieceValue}
use Rattle.ct_table.specs.Table.{TableValue}

-- a ledger: the pieces that stand, in the order in which they were accepted, how many words they store, and the table of the bounds that they give
pub record LedgerValue : Type 0 where
  pub pieces : List PieceValue
  pub stored : ℕ
  pub table : TableValue
