use Rattle.ct_codes.proofs.CosetLemmas.{linear-zero, linear-sum}
use Rattle.ct_laws.proofs.math.cosets.one_coset_is_linear.Goals as goal

pub returns : goal.returns
returns c = record { zero = linear-zero; sum = linear-sum }
