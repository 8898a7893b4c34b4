use Rattle.ct_laws.proofs.DualReaching.{bound_reached, johnson_bound_reached}
use Rattle.ct_laws.proofs.OddSizes.{odd_reached}
use Rattle.ct_laws.proofs.LocalBounds.{local_reached}
use Rattle.ct_laws.proofs.ledger.duals_reach_their_bounds.Goals as goal

pub returns : goal.returns
returns c = record { plain = bound_reached; weighted = johnson_bound_reached; odd = odd_reached; local = local_reached }
