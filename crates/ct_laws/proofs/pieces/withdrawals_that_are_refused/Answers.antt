use Rattle.ct_laws.proofs.Refusing.{kept-for, keeps}
use Rattle.ct_laws.proofs.pieces.withdrawals_that_are_refused.Goals as goal

pub returns : goal.returns
returns c = λ pieces id reason. (kept-for pieces id reason, keeps pieces id reason)
