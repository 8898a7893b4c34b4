use Rattle.std.proofs.Common.{refl}
use Rattle.ct_words.specs.Word.{weight}
use Rattle.ct_sum_classes.specs.SumClass.{place_sum, largest_class}
use Rattle.ct_laws.proofs.math.sum_classes.known_largest_classes.Goals as goal

pub returns : goal.returns
unfolding weight place_sum largest_class
returns c = record { of_two = refl; of_three = refl; of_one = refl }
