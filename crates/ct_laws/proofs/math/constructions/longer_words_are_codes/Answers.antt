use Rattle.ct_words.proofs.Constructions.AppendLemmas.{IsCode-lengthened, IsCode-one_appended, IsCode-with_parity}
use Rattle.ct_laws.proofs.math.constructions.longer_words_are_codes.Goals as goal

pub returns : goal.returns
returns c = record { lengthen = IsCode-lengthened; append_one = IsCode-one_appended; parity = IsCode-with_parity }
