use Rattle.ct_words.proofs.WordLemmas.{distance-is_weight}
use Rattle.ct_laws.proofs.math.words.distance_is_weight_of_sum.Goals as goal

pub returns : goal.returns
returns c = distance-is_weight
