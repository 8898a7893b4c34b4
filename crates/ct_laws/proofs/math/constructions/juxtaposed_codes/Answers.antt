use Rattle.ct_words.proofs.Constructions.JuxtaposedCodes.{IsCode-juxtaposed, length-juxtaposed}
use Rattle.ct_laws.proofs.math.constructions.juxtaposed_codes.Goals as goal

pub returns : goal.returns
returns c = record { code = IsCode-juxtaposed; size = length-juxtaposed }
