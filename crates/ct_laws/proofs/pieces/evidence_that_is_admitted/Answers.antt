use Rattle.ct_laws.proofs.Refusing.{submitted-unread}
use Rattle.ct_laws.proofs.pieces.evidence_that_is_admitted.Goals as goal

pub returns : goal.returns
returns c = submitted-unread
