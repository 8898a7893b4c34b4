-- What was read of a derivation document.
use Rattle.std.specs.Prelude.{List, []}
use Rattle.ct_rules.specs.Derivation.{LineValue}
use Rattle.ct_piece.specs.Piece.{PieceValue}
use Rattle.ct_verify.specs.declared.part.Part.{Part}
use Rattle.ct_verify.specs.declared.part.Part.TheVariants.{Start}

-- what was read of a document: the pieces of evidence that were accepted, the lines, and where in the document this is
pub record ReadingValue : Type 0 where
  pub pieces : List PieceValue
  pub lines : List LineValue
  pub part : Part

-- nothing was read
abbrev pub unread : ReadingValue
unread = record { pieces = []; lines = []; part = Start }

-- the same pieces and lines, at this part
abbrev pub in_part : Part → ReadingValue → ReadingValue
in_part p r = record { pieces = r.pieces; lines = r.lines; part = p }
