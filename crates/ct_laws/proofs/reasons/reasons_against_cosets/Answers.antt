use Rattle.ct_laws.proofs.WordReasons.{cosets-reasons}
use Rattle.ct_laws.proofs.reasons.reasons_against_cosets.Goals as goal

pub returns : goal.returns
returns c = λ known e basis representatives reason. let says = cosets-reasons known e basis representatives in (says.told reason, says.tells reason)
