use Rattle.ct_words.proofs.Constructions.FrontLemmas.{IsCode-take, IsCode-nearer, IsCode-unweighted}
use Rattle.ct_laws.proofs.math.constructions.parts_of_codes_are_codes.Goals as goal

pub returns : goal.returns
returns c = record { trim = λ n d size w words. IsCode-take n d w size words; nearer = IsCode-nearer; unweighted = IsCode-unweighted }
