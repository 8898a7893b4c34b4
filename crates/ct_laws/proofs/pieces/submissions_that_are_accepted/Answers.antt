use Rattle.ct_laws.proofs.Accepted.{accepted, accepted-within, taken}
use Rattle.ct_laws.proofs.pieces.submissions_that_are_accepted.Goals as goal

pub returns-clause-accepted : goal.returns-clause-accepted
returns-clause-accepted c = accepted

pub returns-clause-taken_ids : goal.returns-clause-taken_ids
returns-clause-taken_ids c = taken

pub returns-clause-within : goal.returns-clause-within
returns-clause-within c = accepted-within
