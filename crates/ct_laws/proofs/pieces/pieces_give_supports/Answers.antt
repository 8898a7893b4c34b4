use Rattle.ct_piece.proofs.SupportLemmas.{supports_stand}
use Rattle.ct_laws.proofs.pieces.pieces_give_supports.Goals as goal

pub returns : goal.returns
returns c = supports_stand
