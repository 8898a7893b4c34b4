use Rattle.std.proofs.Common.{List, sym, subst}
use Rattle.ct_piece.specs.Piece.{PieceValue}
use Rattle.ct_session.specs.Reply.{IsReply}
use Rattle.ct_session.specs.Run.{pieces_of}
use Rattle.ct_session.proofs.BoundLemmas.{shown_once}
use Rattle.ct_laws.proofs.Uniqueness.{one_reply_only}
use Rattle.ct_laws.proofs.runs.shown_bounds_depend_on_standing_pieces.Goals as goal

pub returns-clause-bounds : goal.returns-clause-bounds
returns-clause-bounds c = shown_once

pub returns-clause-inputs : goal.returns-clause-inputs
returns-clause-inputs c = λ first second d r s none same h k.
    one_reply_only (pieces_of first) d r s none h (subst (λ (pieces : List PieceValue). IsReply pieces d s) (sym same) k)
