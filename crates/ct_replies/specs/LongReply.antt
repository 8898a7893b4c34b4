-- What answers a command, and what is still to be put for it.
use Rattle.std.specs.Prelude.{ℕ, List, [], Option, None, Some}
use Rattle.ct_piece.specs.Piece.{PieceValue}
use Rattle.ct_piece.specs.Dump.{dump_text}
use Rattle.ct_replies.specs.Text.{listed_text}
use Rattle.ct_replies.specs.declared.reply.AnyReply.{AnyReply}
use Rattle.ct_replies.specs.declared.reply.AnyReply.TheVariants.{Short, Long}
use Rattle.ct_replies.specs.declared.reply.LongReply.{LongReply}
use Rattle.ct_replies.specs.declared.reply.LongReply.TheVariants as long
use Rattle.ct_replies.specs.declared.reply.Reply.{Reply}
use Rattle.ct_replies.specs.declared.reply.Reply.TheVariants.{Lines}

-- the text of a long reply, where these pieces stand
abbrev pub long_text : LongReply → List PieceValue → List ℕ
long_text long.Dump pieces = dump_text pieces
long_text (long.Code code) pieces = listed_text code

-- the reply that an answer is
abbrev pub reply_of : AnyReply → List PieceValue → Reply
reply_of (Short reply) pieces = reply
reply_of (Long reply) pieces = Lines (long_text reply pieces)

-- the text of the reply that is owed, if one is
abbrev pub owed_text : Option LongReply → List PieceValue → List ℕ
owed_text None pieces = []
owed_text (Some reply) pieces = long_text reply pieces
