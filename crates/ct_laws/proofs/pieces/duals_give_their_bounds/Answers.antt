use Rattle.ct_laws.proofs.DualSupports.{gives_bound, gives_johnson_bound, gives_odd, gives_local}
use Rattle.ct_laws.proofs.pieces.duals_give_their_bounds.Goals as goal

pub returns : goal.returns
returns c = record { plain = gives_bound; weighted = gives_johnson_bound; odd = gives_odd; local = gives_local }
