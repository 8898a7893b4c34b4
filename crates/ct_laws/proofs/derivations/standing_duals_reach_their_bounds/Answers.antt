use Rattle.ct_laws.proofs.GivenDuals.{dual-reached}
use Rattle.ct_laws.proofs.derivations.standing_duals_reach_their_bounds.Goals as goal

pub returns : goal.returns
returns c = dual-reached
