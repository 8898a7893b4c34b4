use Rattle.ct_laws.proofs.BuildReasons.{build-reasons}
use Rattle.ct_laws.proofs.reasons.reasons_against_builds.Goals as goal

pub returns : goal.returns
returns c = λ known e step part other reason. let says = build-reasons known e step part other in (says.told reason, says.tells reason)
