-- Each bound of lists of digits is one of codes.
use Rattle.ct_words.proofs.DigitCodes.{bound_from_weight}
use Rattle.ct_words.specs.Counting.Binomials.{choose}
use Rattle.std.proofs.Common.{◌*◌, ◌/◌}
use Rattle.ct_johnson.proofs.Weights.{weight_bound-all, weight_bound-apart, weight_bound-disjoint}
use Rattle.ct_laws.proofs.math.johnson.bounds_by_weight.Goals as goal

pub returns-clause-all_words : goal.returns-clause-all_words
returns-clause-all_words c = λ n d w h. bound_from_weight n d w (choose n w) (weight_bound-all n d w h)

pub returns-clause-far : goal.returns-clause-far
returns-clause-far c = λ n d w h. bound_from_weight n d w 1 (weight_bound-apart n d w h)

pub returns-clause-disjoint : goal.returns-clause-disjoint
returns-clause-disjoint c = λ n w h. bound_from_weight n (2 * w) w (n / w) (weight_bound-disjoint n w h)
