use Rattle.ct_weight_rules.proofs.LawfulOddSizes.{checked-true}
use Rattle.ct_weight_rules.proofs.odd_sizes.parity_excludes_sizes.Goals as goal

pub returns : goal.returns
returns c = checked-true
