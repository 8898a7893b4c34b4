use Rattle.ct_ledger.proofs.Reaching.{reached}
use Rattle.ct_laws.proofs.ledger.pieces_reach_their_bounds.Goals as goal

pub returns : goal.returns
returns c = reached
