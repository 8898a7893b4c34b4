use Rattle.ct_laws.proofs.WordReasons.{words-reasons}
use Rattle.ct_laws.proofs.reasons.reasons_against_words.Goals as goal

pub returns : goal.returns
returns c = λ known e words reason. let says = words-reasons known e words in (says.told reason, says.tells reason)
