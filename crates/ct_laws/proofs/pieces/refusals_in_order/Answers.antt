use Rattle.ct_laws.proofs.Refusing.{refused-for, refuses}
use Rattle.ct_laws.proofs.pieces.refusals_in_order.Goals as goal

pub returns : goal.returns
returns c = λ pieces id document reason. (refused-for pieces id document reason, refuses pieces id document reason)
