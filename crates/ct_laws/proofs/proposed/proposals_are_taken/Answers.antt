use Rattle.ct_laws.proofs.ProposedPieces.{proposals-taken, proposals-pieces}
use Rattle.ct_laws.proofs.proposed.proposals_are_taken.Goals as goal

pub returns : goal.returns
returns c = record { taken = proposals-taken; pieces = proposals-pieces }
