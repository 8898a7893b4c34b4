use Rattle.ct_laws.proofs.Mathematics.SumLemmas.{IsSum-translated, IsSum-uuv}
use Rattle.ct_laws.proofs.math.constructions.added_words_are_sums.Goals as goal

pub returns : goal.returns
returns c = record { translate = IsSum-translated; uuv = IsSum-uuv }
