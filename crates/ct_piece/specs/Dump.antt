-- The dump of pieces: a session whose commands lead to them.
use Rattle.std.specs.Prelude.{ℕ, List, [], ◌∷◌, ◌++◌, length, codes}
use Rattle.std.specs.List.{flat_map}
use Rattle.std.specs.Fmt.{decimal}
use Rattle.ct_text.specs.declared.document_lines.TheConstants.{LINE_FEED}
use Rattle.ct_commands.specs.Submission.{submission_text}
use Rattle.ct_piece.specs.Piece.{PieceValue}

-- the submission of a piece: `submit ID lines K`, and the document
abbrev pub piece_dump : PieceValue → List ℕ
piece_dump p = submission_text p.id p.document

-- the dump: a comment with the number of the pieces, and the submission of each, in their order
abbrev pub dump_text : List PieceValue → List ℕ
dump_text pieces = codes "# dump of " ++ decimal (length pieces) ++ codes " pieces" ++ LINE_FEED ∷ [] ++ flat_map piece_dump pieces
