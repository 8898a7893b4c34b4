-- A code goes over to one of the other entry.
use Rattle.std.proofs.Common.{◌-◌, arith}
use Rattle.ct_words.proofs.Counting.Complements.{complement_bound}
use Rattle.ct_words.proofs.DigitCodes.{bound_from_weight, weight_bound_from_codes}
use Rattle.ct_johnson.proofs.Weights.{code-nearer}
use Rattle.ct_laws.proofs.math.johnson.bounds_from_other_entries.Goals as goal

pub returns-clause-complements : goal.returns-clause-complements
returns-clause-complements c = λ n d w u h within bound.
    bound_from_weight n d w u (complement_bound n d w (n - w) u (omega arith) (weight_bound_from_codes n d (n - w) u h bound))

pub returns-clause-nearer : goal.returns-clause-nearer
returns-clause-nearer c = λ n d w u bound words code. bound words (code-nearer n d (d - 2) w words (omega arith) code)
