use Rattle.ct_laws.proofs.OwnReasons.{own_checked}
use Rattle.ct_laws.proofs.OwnReasons.{own-told, own-tells, no_own_reason}
use Rattle.ct_laws.proofs.pieces.reasons_of_kinds.Goals as goal

pub returns-clause-reason : goal.returns-clause-reason
returns-clause-reason c = λ known evidence reason. (own-told known evidence reason, own-tells known evidence reason)

pub returns-clause-none : goal.returns-clause-none
returns-clause-none c = λ known evidence sound. (own_checked known evidence sound, no_own_reason known evidence sound)
