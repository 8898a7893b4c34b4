use Rattle.std.proofs.Common.{refl}
use Rattle.ct_words.specs.Word.{distance, weight}
use Rattle.ct_words.specs.Check.{code_fault}
use Rattle.ct_laws.proofs.math.codes.known_faults.Goals as goal

pub returns : goal.returns
unfolding distance weight code_fault
returns c = record { accepted = refl; close = refl; repeated = refl; empty = refl; repeated_before_close = refl; weight_first = refl }
