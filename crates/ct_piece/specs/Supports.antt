-- What the pieces that stand give to the table.
use Rattle.std.specs.Prelude.{List, map}
use Rattle.ct_rule_parts.specs.declared.support.Support.{Support}
use Rattle.ct_files.specs.ByKind.{kind_of}
use Rattle.ct_piece.specs.Piece.{PieceValue}

-- what a piece gives, by its kind: the size of its code at its entry, the bound of its dual, or nothing
abbrev pub support_of : PieceValue → Support
support_of p = (kind_of p.evidence).gives p.size

-- what pieces give, place by place
abbrev pub supports_of : List PieceValue → List Support
supports_of pieces = map support_of pieces
