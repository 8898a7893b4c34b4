use Rattle.ct_laws.proofs.Citing.{cites-kept, cites-right, cites-alike, submitted-uncited, along-uncited, supports-uncited}
use Rattle.ct_laws.proofs.pieces.cites_are_kept.Goals as goal

pub returns-clause-kept : goal.returns-clause-kept
returns-clause-kept c = cites-kept

pub returns-clause-right : goal.returns-clause-right
returns-clause-right c = cites-right

pub returns-clause-alike : goal.returns-clause-alike
returns-clause-alike c = cites-alike

pub returns-clause-submissions : goal.returns-clause-submissions
returns-clause-submissions c = submitted-uncited

pub returns-clause-along : goal.returns-clause-along
returns-clause-along c = along-uncited

pub returns-clause-supports : goal.returns-clause-supports
returns-clause-supports c = supports-uncited
