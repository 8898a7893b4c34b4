use Rattle.std.proofs.Common.{refl}
use Rattle.ct_words.specs.Word.{weight}
use Rattle.ct_sum_classes.specs.SumClass.{place_sum}
use Rattle.ct_laws.proofs.math.sum_classes.known_sum_classes.Goals as goal

pub returns : goal.returns
unfolding weight place_sum
returns c = record { sum = refl; sum_of_last = refl; class_0 = refl; class_1 = refl; no_ones = refl; no_ones_no_other = refl }
