use Rattle.ct_words.proofs.Constructions.ShortenedCodes.{IsCode-shortened, length-shortened, halves-shortened}
use Rattle.ct_laws.proofs.math.constructions.shortened_codes.Goals as goal

pub returns : goal.returns
returns c = record { code = IsCode-shortened; size = length-shortened; halves = halves-shortened }
