use Rattle.ct_words.proofs.Constructions.PuncturedCodes.{IsCode-punctured, length-punctured}
use Rattle.ct_laws.proofs.math.constructions.punctured_codes.Goals as goal

pub returns : goal.returns
returns c = record { code = IsCode-punctured; size = length-punctured }
