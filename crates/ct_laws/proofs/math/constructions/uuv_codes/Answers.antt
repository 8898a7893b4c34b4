use Rattle.ct_words.proofs.Constructions.UuvCodes.{IsCode-uuv, length-uuv_words}
use Rattle.ct_laws.proofs.math.constructions.uuv_codes.Goals as goal

pub returns : goal.returns
returns c = record { code = IsCode-uuv; size = length-uuv_words }
