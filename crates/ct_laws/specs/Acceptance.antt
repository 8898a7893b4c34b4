-- The text of a piece that is accepted.
use Rattle.std.specs.Prelude.{ℕ, List}
use Rattle.ct_piece.specs.Piece.{PieceValue}
use Rattle.ct_replies.specs.Text.{reply_text}
use Rattle.ct_replies.specs.declared.reply.Reply.TheVariants.{Accepted}

-- the text of the reply to a submission that is accepted as this piece
abbrev pub acceptance_text : PieceValue → List ℕ
acceptance_text p = reply_text (Accepted p.id p.size)
