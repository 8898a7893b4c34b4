-- Bounds of pieces that are explained.
use Rattle.std.specs.Prelude.{ℕ, List}
use Rattle.ct_words.specs.declared.entry.Entry.{Entry}
use Rattle.ct_words.specs.declared.claim.Side.{Side}
use Rattle.ct_rules.specs.Derivation.{IsBest}
use Rattle.ct_derive.specs.Derivation.{DerivationValue}
use Rattle.ct_derive.specs.Explanation.{IsExplanation}
use Rattle.ct_derive.specs.Pieces.{AreNeeded}
use Rattle.ct_derive.specs.Text.{derivation_text}
use Rattle.ct_piece.specs.Piece.{PieceValue}
use Rattle.ct_piece.specs.Supports.{supports_of}
use Rattle.ct_explain.specs.Parts.{parts_of_each}

-- a derivation explains the best bound of a side of an entry over pieces: its lines are an explanation of it, and its pieces are those that the
-- lines name, the parts of these, and so on, in the order of the ledger
pub record ExplainsBest (pieces : List PieceValue) (side : Side) (e : Entry) (d : DerivationValue) : Type 0 where
  pub value : ℕ
  pub best : IsBest (supports_of pieces) (side, e) value
  pub lines : IsExplanation (supports_of pieces) (side, e) value d.lines
  pub needed : AreNeeded (parts_of_each pieces) d.lines d.pieces

-- the document of a derivation over pieces, each under its id with its document
abbrev pub explanation_text : List PieceValue → DerivationValue → List ℕ
explanation_text pieces d = derivation_text (λ p. p.id) (λ p. p.document) pieces d
