use Rattle.ct_session.proofs.BoundLemmas.{shown}
use Rattle.ct_session.proofs.Existence.{AreStanding-input}
use Rattle.ct_laws.proofs.runs.pieces_give_true_bounds.Goals as goal

pub returns-clause-standing : goal.returns-clause-standing
returns-clause-standing c = AreStanding-input

pub returns-clause-bounds : goal.returns-clause-bounds
returns-clause-bounds c = shown
